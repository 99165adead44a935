-- Check by check, in order.
use Rattle.std.proofs.Common.{◌≡◌, true, false, refl, sym, ap, ◌∙◌, Option}
use Rattle.std.specs.Option.{option_or}
use Rattle.model_h1.specs.Handshake as model
use Rattle.model_h1.specs.Handshake.{key_error}
use Rattle.ws_session.proofs.CheckLemmas.{is_get, has_websocket, has_upgrade, keys, wrong_method, wrong_upgrade, wrong_connection, right_so_far, wrong_version, fails, same_method, other_method}
use Rattle.ws_session.proofs.WordLemmas.{websocket_alike, upgrade_alike}
use Rattle.ws_session.proofs.verify.check_all.Goals as goal

pub first_has_word-requires-clause-found : goal.first_has_word-requires-clause-found
first_has_word-requires-clause-found c = websocket_alike

pub first_has_word-requires-2-clause-found : goal.first_has_word-requires-2-clause-found
first_has_word-requires-2-clause-found c = upgrade_alike

pub returns-then-ne : goal.returns-then-ne
returns-then-ne c = λ h says.
    let get : is_get h ≡ false = other_method _ h.method c.ne.result c.ne.ensures (c.as_str.ensures.value ∙ says.method) c.if-ne.true in
    fails _ model.get_method_required _ (wrong_method h get) refl

pub returns-then-not-first_has_word : goal.returns-then-not-first_has_word
returns-then-not-first_has_word c = λ h says.
    let get : is_get h ≡ true = same_method _ h.method c.ne.result c.ne.ensures (c.as_str.ensures.value ∙ says.method) c.if-ne.false in
    fails _ model.no_websocket_upgrade _ (wrong_upgrade h get (sym (c.first_has_word.ensures h says) ∙ c.if-not-first_has_word.true)) refl

pub returns-then-not-first_has_word-2 : goal.returns-then-not-first_has_word-2
returns-then-not-first_has_word-2 c = λ h says.
    let get : is_get h ≡ true = same_method _ h.method c.ne.result c.ne.ensures (c.as_str.ensures.value ∙ says.method) c.if-ne.false in
    let websocket : has_websocket h ≡ true = sym (c.first_has_word.ensures h says) ∙ c.if-not-first_has_word.false in
    fails _ model.no_connection_upgrade _ (wrong_connection h get websocket (sym (c.first_has_word-2.ensures h says) ∙ c.if-not-first_has_word-2.true)) refl

pub returns-in-Err : goal.returns-in-Err
returns-in-Err c = λ h says.
    let get : is_get h ≡ true = same_method _ h.method c.ne.result c.ne.ensures (c.as_str.ensures.value ∙ says.method) c.if-ne.false in
    let websocket : has_websocket h ≡ true = sym (c.first_has_word.ensures h says) ∙ c.if-not-first_has_word.false in
    let upgrade : has_upgrade h ≡ true = sym (c.first_has_word-2.ensures h says) ∙ c.if-not-first_has_word-2.false in
    wrong_version c.in-Err.error h get websocket upgrade (c.in-Err.ensures h says)

pub returns-in-Some : goal.returns-in-Some
returns-in-Some c = λ h says.
    let get : is_get h ≡ true = same_method _ h.method c.ne.result c.ne.ensures (c.as_str.ensures.value ∙ says.method) c.if-ne.false in
    let websocket : has_websocket h ≡ true = sym (c.first_has_word.ensures h says) ∙ c.if-not-first_has_word.false in
    let upgrade : has_upgrade h ≡ true = sym (c.first_has_word-2.ensures h says) ∙ c.if-not-first_has_word-2.false in
    right_so_far h get websocket upgrade
    ∙ ap (λ (o : Option model.HandshakeError). option_or o (key_error (keys h))) (c.in-Ok.ensures h says)
    ∙ ap key_error (c.in-Some.ensures h says).1

pub returns-in-None : goal.returns-in-None
returns-in-None c = λ h says.
    let get : is_get h ≡ true = same_method _ h.method c.ne.result c.ne.ensures (c.as_str.ensures.value ∙ says.method) c.if-ne.false in
    let websocket : has_websocket h ≡ true = sym (c.first_has_word.ensures h says) ∙ c.if-not-first_has_word.false in
    let upgrade : has_upgrade h ≡ true = sym (c.first_has_word-2.ensures h says) ∙ c.if-not-first_has_word-2.false in
    fails _ model.bad_websocket_key _ (right_so_far h get websocket upgrade
    ∙ ap (λ (o : Option model.HandshakeError). option_or o (key_error (keys h))) (c.in-Ok.ensures h says)
    ∙ ap key_error (c.in-None.ensures h says)) refl
