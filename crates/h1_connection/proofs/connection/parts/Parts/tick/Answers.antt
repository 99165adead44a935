use Rattle.std.proofs.Common.{◌≡◌, sym, ◌∙◌, subst}
use Rattle.std.specs.Prelude.{IfOk, IsOk, OnOk}
use Rattle.model_h1.specs.Event as on
use Rattle.h1_connection.specs.EventMeaning.{setting_of}
use Rattle.h1_connection.specs.Parts.{kept_of, IsSound, Steps}
use Rattle.h1_connection.specs.Ticks.{expiry_of, IsQuietTick}
use Rattle.h1_connection.specs.declared.connection.parts.Parts.{Parts}
use Rattle.h1_connection.proofs.ResultLemmas.{err_map}
use Rattle.h1_connection.proofs.connection.parts.Parts.tick.Goals as goal

pub take_tick-requires-clause-sound : goal.take_tick-requires-clause-sound
take_tick-requires-clause-sound c = subst (λ (p : Parts). IsSound c.args.config.now p) (sym c.give_back.ensures) c.requires.sound

pub returns-clause-ok : goal.returns-clause-ok
returns-clause-ok c =
    subst (λ (p : Parts). IfOk c.take_tick.result (λ expiry. Steps c.args.config.now p (on.tick c.args.moment) (expiry_of expiry) c.take_tick.new.self)) c.give_back.ensures
    c.take_tick.ensures.ok

pub returns-clause-no_memory_needed : goal.returns-clause-no_memory_needed
returns-clause-no_memory_needed c =
    subst (λ (p : Parts). IsQuietTick (setting_of c.args.config.now) (kept_of p) c.args.moment → IsOk c.take_tick.result) c.give_back.ensures
    c.take_tick.ensures.no_memory_needed

pub returns-clause-err : goal.returns-clause-err
returns-clause-err c = err_map c.take_tick.result _ _ (λ e. e ∙ c.give_back.ensures) c.take_tick.ensures.err

pub returns-clause-marks : goal.returns-clause-marks
returns-clause-marks c =
    subst (λ (p : Parts). OnOk c.take_tick.result (c.take_tick.new.self.output.marks ≡ p.output.marks)) c.give_back.ensures c.take_tick.ensures.marks

pub returns-clause-ahead : goal.returns-clause-ahead
returns-clause-ahead c = subst (λ (p : Parts). c.take_tick.new.self.input.ahead ≡ p.input.ahead) c.give_back.ensures c.take_tick.ensures.ahead
