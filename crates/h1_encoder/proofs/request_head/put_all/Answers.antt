use Rattle.std.proofs.Common.{◌≡◌, ℕ, List, ◌++◌, refl, ap, ◌∙◌}
use Rattle.std.proofs.lemmas.Result.{on_ok_weaker, on_err_weaker}
use Rattle.h1_encoder.specs.WrittenLines.{Grows}
use Rattle.h1_encoder.specs.Meaning.{size_of, model_type}
use Rattle.h1_encoder.proofs.Pieces.{on_err, Grows-same, Grows-more, Grows-on}
use Rattle.h1_encoder.specs.RequestLines.{request_words}
use Rattle.h1_encoder.specs.RequestMeaning.{asked_head}
use Rattle.h1_encoder.proofs.RequestLines.{request_is}
use Rattle.h1_encoder.proofs.request_head.put_all.Goals as goal

pub returns-in_err-put_request_words-clause-err : goal.returns-in_err-put_request_words-clause-err
returns-in_err-put_request_words-clause-err c =
    on_err _ (Grows-on _ _ _ (Grows-same _ _ c.reserve.ensures.items) (Grows-same _ _ c.in_err-put_request_words.ensures.err))

pub returns-in_err-put_framing-clause-err : goal.returns-in_err-put_framing-clause-err
returns-in_err-put_framing-clause-err c =
    let words : Grows c.args.out.now.items c.put_request_words.new.out.items = Grows-more _ _ _ _ (Grows-same _ _ c.reserve.ensures.items) c.in_ok-put_request_words.ensures.ok in
    on_err _ (Grows-on _ _ _ words (Grows-same _ _ c.in_err-put_framing.ensures.err))

pub returns-in_err-put_connection-clause-err : goal.returns-in_err-put_connection-clause-err
returns-in_err-put_connection-clause-err c =
    let words : Grows c.args.out.now.items c.put_request_words.new.out.items = Grows-more _ _ _ _ (Grows-same _ _ c.reserve.ensures.items) c.in_ok-put_request_words.ensures.ok in
    let framed : Grows c.args.out.now.items c.put_framing.new.out.items = Grows-more _ _ _ _ words c.in_ok-put_framing.ensures.ok in
    on_err _ (Grows-on _ _ _ framed (Grows-same _ _ c.in_err-put_connection.ensures.err))

pub returns-in_err-has_date-clause-err : goal.returns-in_err-has_date-clause-err
returns-in_err-has_date-clause-err c =
    let words : Grows c.args.out.now.items c.put_request_words.new.out.items = Grows-more _ _ _ _ (Grows-same _ _ c.reserve.ensures.items) c.in_ok-put_request_words.ensures.ok in
    let framed : Grows c.args.out.now.items c.put_framing.new.out.items = Grows-more _ _ _ _ words c.in_ok-put_framing.ensures.ok in
    let told : Grows c.args.out.now.items c.put_connection.new.out.items = Grows-more _ _ _ _ framed c.in_ok-put_connection.ensures.ok in
    on_err _ (Grows-on _ _ _ told c.in_err-has_date.ensures.err)

pub returns-clause-err : goal.returns-clause-err
returns-clause-err c =
    let words : Grows c.args.out.now.items c.put_request_words.new.out.items = Grows-more _ _ _ _ (Grows-same _ _ c.reserve.ensures.items) c.in_ok-put_request_words.ensures.ok in
    let framed : Grows c.args.out.now.items c.put_framing.new.out.items = Grows-more _ _ _ _ words c.in_ok-put_framing.ensures.ok in
    let told : Grows c.args.out.now.items c.put_connection.new.out.items = Grows-more _ _ _ _ framed c.in_ok-put_connection.ensures.ok in
    let lines : Grows c.args.out.now.items c.put_headers.new.out.items = Grows-more _ _ _ _ told c.in_ok-has_date.ensures.text in
    on_err_weaker c.put_end_of_head.result (λ (more : Grows c.put_headers.new.out.items c.put_end_of_head.new.out.items). Grows-on _ _ _ lines more) c.put_end_of_head.ensures.err

pub returns-clause-ok : goal.returns-clause-ok
returns-clause-ok c =
    on_ok_weaker c.put_end_of_head.result
    (λ put.
    request_is (asked_head c.args.head.now) (size_of c.args.size) (model_type c.args.connection) c.args.now
    c.args.head.now.headers c.camel_case_headers-camel.result c.in_ok-has_date.has_date
    c.args.out.now.items c.put_request_words.new.out.items c.put_framing.new.out.items c.put_connection.new.out.items c.put_headers.new.out.items c.put_end_of_head.new.out.items
    c.len.ensures.valid refl c.camel_case_headers-camel.ensures c.in_ok-has_date.ensures.date
    (c.in_ok-put_request_words.ensures.ok ∙ ap (λ (l : List ℕ). l ++ request_words (asked_head c.args.head.now)) c.reserve.ensures.items)
    c.in_ok-put_framing.ensures.ok c.in_ok-put_connection.ensures.ok c.in_ok-has_date.ensures.text put)
    c.put_end_of_head.ensures.ok
