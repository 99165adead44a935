-- The head that comes next, none yet, or why it is refused.
use Rattle.std.proofs.Common.{◌≡◌, sym, ap, ◌∙◌, subst}
use Rattle.std.specs.Prelude.{Option, Some, None, Ok, Err}
use Rattle.http_types.specs.declared.error.ParseError.TheVariants.{NoMemory}
use Rattle.h1_payload.specs.Decoding.{Decoding}
use Rattle.h1_codec.specs.Light.{NeedsNoMemoryFrom}
use Rattle.h1_codec.proofs.Lacking.{parse_error}
use Rattle.h1_codec.specs.ClientState.{answered}
use Rattle.h1_codec.proofs.Headed.{is_none, item_answered, none_answered, error_answered}
use Rattle.h1_codec.proofs.Stepped.{item_step, none_step, error_step}
use Rattle.h1_codec.proofs.client_state.Client.decode_head.Goals as goal

pub returns-in-Ok-Some-clause-headed : goal.returns-in-Ok-Some-clause-headed
returns-in-Ok-Some-clause-headed c =
    let is : c.next_head.result ≡ Ok (Some c.in-Ok-Some.item) = cc in
    item_answered c.args.self.now c.next_head.new.heads c.next_head.new.body c.next_head.new.trailers c.args.src.now.items c.next_head.new.src.items
    (is_none c.args.self.now.body (sym c.is_some.ensures ∙ c.if-is_some.false)) c.next_head.result c.in-Ok-Some.item c.answered-self.result c.passes_on-self.result is
    c.next_head.ensures.given c.next_head.ensures.others c.next_head.ensures.limit (c.answered-self.ensures ∙ ap (λ k. answered k c.args.self.now.connection) c.conn_type.ensures, c.passes_on-self.ensures)

pub returns-in-Ok-None-clause-headed : goal.returns-in-Ok-None-clause-headed
returns-in-Ok-None-clause-headed c =
    let is : c.next_head.result ≡ Ok None = cc in
    none_answered c.args.self.now c.next_head.new.heads c.next_head.new.body c.next_head.new.trailers c.args.src.now.items c.next_head.new.src.items
    (is_none c.args.self.now.body (sym c.is_some.ensures ∙ c.if-is_some.false)) c.next_head.result is
    c.next_head.ensures.given c.next_head.ensures.others c.next_head.ensures.limit

pub returns-in-Err-clause-headed : goal.returns-in-Err-clause-headed
returns-in-Err-clause-headed c =
    let is : c.next_head.result ≡ Err c.in-Err.error = cc in
    error_answered c.args.self.now c.next_head.new.heads c.next_head.new.body c.next_head.new.trailers c.args.src.now.items c.next_head.new.src.items
    (is_none c.args.self.now.body (sym c.is_some.ensures ∙ c.if-is_some.false)) c.next_head.result c.in-Err.error is
    c.next_head.ensures.given c.next_head.ensures.others c.next_head.ensures.limit

pub returns-in-Ok-Some-clause-step : goal.returns-in-Ok-Some-clause-step
returns-in-Ok-Some-clause-step c =
    item_step c.args.self.now.heads c.next_head.new.heads c.args.src.now.items c.next_head.new.src.items c.args.self.now.body c.next_head.new.body c.in-Ok-Some.item
    (is_none c.args.self.now.body (sym c.is_some.ensures ∙ c.if-is_some.false))

pub returns-in-Ok-None-clause-step : goal.returns-in-Ok-None-clause-step
returns-in-Ok-None-clause-step c =
    let is : c.next_head.result ≡ Ok None = cc in
    none_step c.args.self.now.is_head c.args.self.now.heads c.next_head.new.heads c.args.src.now.items c.next_head.new.src.items c.args.self.now.trailers c.next_head.new.trailers
    c.args.self.now.body c.next_head.new.body (is_none c.args.self.now.body (sym c.is_some.ensures ∙ c.if-is_some.false)) c.next_head.result is
    c.next_head.ensures.given c.next_head.ensures.others

pub returns-in-Err-clause-step : goal.returns-in-Err-clause-step
returns-in-Err-clause-step c =
    let is : c.next_head.result ≡ Err c.in-Err.error = cc in
    error_step c.args.self.now.is_head c.args.self.now.heads c.next_head.new.heads c.args.src.now.items c.next_head.new.src.items c.args.self.now.trailers c.next_head.new.trailers
    c.args.self.now.body c.next_head.new.body (is_none c.args.self.now.body (sym c.is_some.ensures ∙ c.if-is_some.false)) c.next_head.result c.in-Err.error is
    c.next_head.ensures.given c.next_head.ensures.others

pub returns-in-Err-clause-no_memory_needed : goal.returns-in-Err-clause-no_memory_needed
returns-in-Err-clause-no_memory_needed c = λ light is.
    let same : c.next_head.result ≡ Err c.in-Err.error = cc in
    let none = is_none c.args.self.now.body (sym c.is_some.ensures ∙ c.if-is_some.false) in
    c.next_head.ensures.no_memory_needed (subst (λ (b : Option Decoding). NeedsNoMemoryFrom b c.args.self.now.heads c.args.src.now.items) none light)
    (parse_error c.next_head.result c.in-Err.error NoMemory same is)
