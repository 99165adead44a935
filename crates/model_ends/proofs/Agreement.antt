-- Both directions together.
use Rattle.std.proofs.Common.{◌≡◌, ℕ, ◌<◌, ◌≤◌, Bool, List, [], ◌∷◌, ◌++◌, length, map, reverse, Some, refl, sym, ap, ◌∙◌, subst, inl, append-nil, append_assoc, arith}
use Rattle.std.specs.Prelude.{IsTrue}
use Rattle.std.specs.List.{AllByRecursion}
use Rattle.std.proofs.lemmas.Grind.{reverse_onto}
use Rattle.model_h1.specs.Setting.{Setting}
use Rattle.model_h1.specs.Event as on
use Rattle.model_h1.specs.Handed.{handed_out}
use Rattle.model_h1.specs.Past.{input_of}
use Rattle.model_h1.specs.Sums.{Step, taken, has_ended}
use Rattle.model_h1.specs.Text.{text, buffered}
use Rattle.model_h1.specs.Trace.{IsOutcome, IsTrace}
use Rattle.model_h1.proofs.HandedParsed.{handed_prefix}
use Rattle.model_h1.proofs.MessageExistence.{parse_exists}
use Rattle.model_h1.proofs.WrittenLemmas.{written_buffered}
use Rattle.model_client.specs.AnswerParse.{is_interim}
use Rattle.model_client.specs.RequestText.{RequestGiven, IsPlainGiven}
use Rattle.model_client.specs.ClientKept.{Waiting, ClientKept, client_closing, client_allows}
use Rattle.model_client.specs.ClientStep.{IsClientStep}
use Rattle.model_client.specs.ClientEvent as client_on
use Rattle.model_client.specs.ClientEvent.{ClientEnd}
use Rattle.model_client.specs.ClientTrace.{Happened, IsClientTrace, text_of, requests_of}
use Rattle.model_client.proofs.Written.{is_text}
use Rattle.model_ends.specs.PlainExchange.{IsPlainTrace}
use Rattle.model_ends.specs.SentAnswer.{SentAnswer, AreSent, AreHeld, sent_text, AreTo, IsWaiting, answers_sent}
use Rattle.model_ends.specs.SentRequest.{SentRequest, sent_request, asked_text}
use Rattle.model_ends.proofs.BegunRequests.{begun_served}
use Rattle.model_ends.proofs.GivenRequests.{each_asked}
use Rattle.model_ends.proofs.InterimStatuses.{not_interim}
use Rattle.model_ends.proofs.Traces.{trace_words, trace_sent, trace_to}
use Rattle.model_ends.specs.AskedTrace.{requests_asked, IsPlainAsked, AreServedOut}
use Rattle.model_ends.specs.Connected.{AreConnected, ArePlain, Agree, IsFairEnd}
use Rattle.model_client.specs.ReadOut.{ReadAnswer, read_out}
use Rattle.model_ends.specs.ReadOut.{bytes_taken, AreReadOut}
use Rattle.model_ends.proofs.AskedTexts.{asked_text_of}
use Rattle.model_ends.proofs.Completions.{completions, completions_length, texts_begin, plain_completions, served_so_far}
use Rattle.model_ends.proofs.Holds.{methods_of, AreSo}
use Rattle.model_ends.proofs.Methods.{sound_from, agreed_methods}
use Rattle.model_ends.proofs.AllServed.{parsed_out, all_begun, all_served}
use Rattle.model_ends.proofs.ReadOuts.{known_of, all_for}
use Rattle.model_ends.proofs.Ends.{all_handed, ends_fairly}
use Rattle.model_ends.proofs.Served.{AreServedSo, prefix_served}

-- ---- answers

-- what is so for each is so for the first of them, in their order
so_more : (e : Bool) (outs : List ReadAnswer) (ds : List SentAnswer) (a : ReadAnswer) (s : SentAnswer) → AreSo e outs ds → AreSo e (a ∷ []) (s ∷ [])
    → AreSo e (outs ++ a ∷ []) (ds ++ s ∷ [])
so_more e [] [] a s x y = y
so_more e [] (d ∷ ds) a s x y = absurd x
so_more e (o ∷ outs) [] a s x y = absurd x
so_more e (o ∷ outs) (d ∷ ds) a s x y = (x.0, so_more e outs ds a s x.1 y)

so_turned : (e : Bool) (outs : List ReadAnswer) (ds : List SentAnswer) → AreSo e outs ds → AreSo e (reverse outs) (reverse ds)
so_turned e [] [] x = x
so_turned e [] (d ∷ ds) x = absurd x
so_turned e (o ∷ outs) [] x = absurd x
so_turned e (o ∷ outs) (d ∷ ds) x =
    subst (λ (l : List ReadAnswer). AreSo e l (reverse (d ∷ ds))) (sym (reverse_onto outs o []))
    (subst (λ (l : List SentAnswer). AreSo e (reverse outs ++ o ∷ []) l) (sym (reverse_onto ds d []))
    (so_more e (reverse outs) (reverse ds) o d (so_turned e outs ds x.1) (x.0, tt)))

so_front : (e : Bool) (outs : List ReadAnswer) (ds rest : List SentAnswer) → AreSo e outs ds → AreReadOut e outs (ds ++ rest)
so_front e [] ds rest x = tt
so_front e (o ∷ outs) [] rest x = absurd x
so_front e (o ∷ outs) (d ∷ ds) rest x = (x.0, so_front e outs ds rest x.1)

-- a client hands out what was sent
pub client_reads : (setting : Setting) (trace : List Happened) (k : ClientKept) (ss : List SentAnswer) (more : List ℕ) (further : List Waiting)
    → 0 < setting.hold_size → IsClientTrace setting trace k → bytes_taken trace ++ more ≡ sent_text ss
    → AreTo is_interim (methods_of (requests_of trace ++ further)) ss → AreSent ss → AreHeld (Some setting.hold_size) ss
    → ((read_out trace).stray ≡ []) × AreReadOut k.has_ended (reverse (read_out trace).answers) ss
client_reads setting trace k ss more further some ran text to sent held =
    let x = all_for setting ss some trace k more further ran text to sent held in (
      x.2.none,
      subst (AreReadOut k.has_ended (reverse (read_out trace).answers)) (sym x.2.are)
          (so_front k.has_ended (reverse (read_out trace).answers) (reverse x.0) x.1 (so_turned k.has_ended (read_out trace).answers x.0 x.2.so)),
    )

-- ---- requests

heads_held : (hold_size : ℕ) (gs : List RequestGiven) → AllByRecursion (IsPlainGiven hold_size) gs
    → AllByRecursion (λ (s : SentRequest). length s.head ≤ hold_size) (map sent_request gs)
heads_held hold_size [] plain = tt
heads_held hold_size (g ∷ gs) plain = (plain.0.held, heads_held hold_size gs plain.1)

-- whole requests, of which the first bytes came
served_given : (setting : Setting) (trace : List Step) (gs : List RequestGiven) (more : List ℕ) → 0 < setting.hold_size → IsTrace setting trace
    → AllByRecursion (IsPlainGiven setting.hold_size) gs → taken trace ++ more ≡ asked_text (map sent_request gs)
    → ((handed_out trace).stray ≡ []) × AreServedSo (has_ended trace) (reverse (handed_out trace).messages) (map sent_request gs)
served_given setting trace gs more some ran plain is =
    let i = input_of setting trace in
    let parse = parse_exists i in
    let handed = handed_prefix setting trace parse.0 ran parse.1 in
    let begun = begun_served i more (map sent_request gs) parse.0 is (each_asked setting.hold_size gs plain) parse.1 in (
      handed.0,
      prefix_served i more some 0 (reverse (handed_out trace).messages) parse.0 (map sent_request gs) is
          (heads_held setting.hold_size gs plain) handed.1 begun,
    )

-- a server hands out what a client asked
pub server_serves : (client server : Setting) (asked : List Happened) (k : ClientKept) (trace : List Step) (more : List ℕ) → 0 < server.hold_size
    → IsClientTrace client asked k → IsTrace server trace → taken trace ++ more ≡ text_of asked
    → AllByRecursion (IsPlainAsked server.hold_size) (requests_asked asked)
    → ((handed_out trace).stray ≡ []) × AreServedOut (has_ended trace) (reverse (handed_out trace).messages) (reverse (requests_asked asked))
server_serves client server asked k trace more some client_ran server_ran is plain =
    let rs = requests_asked asked in
    let t = asked_text_of client asked k client_ran in
    let all : (pad : ℕ) → ((handed_out trace).stray ≡ [])
    × AreServedSo (has_ended trace) (reverse (handed_out trace).messages) (map sent_request (reverse (completions pad rs))) =
    λ pad.
    let c = texts_begin pad rs t.others in
    served_given server trace (reverse (completions pad rs)) (more ++ c.0) some server_ran (plain_completions pad server.hold_size rs plain t.others)
    (sym (append_assoc (taken trace) more c.0) ∙ ap (λ (l : List ℕ). l ++ c.0) (is ∙ t.text_is) ∙ c.1) in
    ((all 0).0, served_so_far (has_ended trace) (reverse (handed_out trace).messages) rs t.others (all 0).1 (all 1).1)

-- ---- both

-- what both give and are asked, with all that follows of it
pub record Joined (client server : Setting) (asked : List Happened) (k : ClientKept) (trace : List Step) : Type 0 where
  pub requests : ((handed_out trace).stray ≡ []) × AreServedOut (has_ended trace) (reverse (handed_out trace).messages) (reverse (requests_asked asked))
  pub is_plain : IsPlainTrace server trace
  pub to : AreTo is_interim (methods_of (requests_of asked ++ [])) (answers_sent server trace)
  pub sent : AreSent (answers_sent server trace)
  pub more : List ℕ
  pub came : bytes_taken asked ++ more ≡ sent_text (answers_sent server trace)

pub joined_ends : (client server : Setting) (asked : List Happened) (k : ClientKept) (trace : List Step) → AreConnected client server asked k trace
    → ArePlain client server asked trace → Joined client server asked k trace
joined_ends client server asked k trace c plain =
    let t = is_text client asked k c.client_ran in
    let to_server : taken trace ++ (c.to_server.0 ++ k.buffered) ≡ text_of asked =
    sym (append_assoc (taken trace) c.to_server.0 k.buffered) ∙ ap (λ (l : List ℕ). l ++ k.buffered) (sym c.to_server.1) ∙ t.text in
    let requests = server_serves client server asked k trace (c.to_server.0 ++ k.buffered) plain.server_holds c.client_ran c.server_ran to_server plain.requests in
    let methods = agreed_methods (has_ended trace) trace asked requests.1 in
    let is_plain : IsPlainTrace server trace =
    record { traced = c.server_ran; unrefused = record { no_fault = methods.0; in_time = plain.in_time }; plain = plain.answers } in
    let waiting : IsWaiting is_interim trace = record { counts = not_interim; goes_on = inl refl } in
    record {
      requests = requests;
      is_plain = is_plain;
      to =
          subst (λ (l : List (List ℕ)). AreTo is_interim l (answers_sent server trace)) (sym (ap methods_of (append-nil (requests_of asked)) ∙ methods.1.1))
          (trace_to server is_interim trace methods.1.0 waiting is_plain);
      sent = trace_sent server trace is_plain;
      more = c.to_client.0 ++ buffered server trace;
      came =
          sym (append_assoc (bytes_taken asked) c.to_client.0 (buffered server trace)) ∙ ap (λ (l : List ℕ). l ++ buffered server trace) (sym c.to_client.1)
          ∙ written_buffered server trace c.server_ran ∙ trace_words server trace is_plain;
    }

pub ends_agree : (client server : Setting) (asked : List Happened) (k : ClientKept) (trace : List Step) → AreConnected client server asked k trace
    → ArePlain client server asked trace → Agree server asked k trace
ends_agree client server asked k trace c plain =
    let j = joined_ends client server asked k trace c plain in
    let read = client_reads client asked k (answers_sent server trace) j.more [] plain.client_holds c.client_ran j.came j.to j.sent plain.held in
    record {
      no_stray_item = j.requests.0;
      requests = j.requests.1;
      to = subst (λ (l : List Waiting). AreTo is_interim (methods_of l) (answers_sent server trace)) (append-nil (requests_of asked)) j.to;
      no_stray_answer = read.0;
      answers = read.1;
    }

-- ---- when all is read, and why a client closes

pub all_is_read : (client server : Setting) (asked : List Happened) (k next : ClientKept) (trace : List Step) → AreConnected client server asked k trace
    → ArePlain client server asked trace → bytes_taken asked ≡ text server trace → IsTrue (client_allows client k client_on.next)
    → IsClientStep client k client_on.next client_on.pending next → length (read_out asked).answers ≡ length (answers_sent server trace)
all_is_read client server asked k next trace c plain all allowed step =
    let j = joined_ends client server asked k trace c plain in
    let ss = answers_sent server trace in
    let came : bytes_taken asked ++ [] ≡ sent_text ss = append-nil (bytes_taken asked) ∙ all ∙ trace_words server trace j.is_plain in
    let x = all_for client ss plain.client_holds asked k [] [] c.client_ran came j.to j.sent plain.held in
    all_handed client k next (known_of client ss plain.client_holds asked k c.client_ran) allowed step ss (read_out asked).stray (read_out asked).answers x.0 x.1 x.2

pub fair_ends : (client server : Setting) (asked : List Happened) (k : ClientKept) (trace : List Step) (end : ClientEnd) → AreConnected client server asked k trace
    → ArePlain client server asked trace → client_closing k ≡ Some end → IsFairEnd end k.has_ended
fair_ends client server asked k trace end c plain closing =
    let j = joined_ends client server asked k trace c plain in
    let ss = answers_sent server trace in
    let x = all_for client ss plain.client_holds asked k j.more [] c.client_ran j.came j.to j.sent plain.held in
    ends_fairly client.hold_size ss (read_out asked).answers x.0 x.1 k j.more end x.2.state closing

pub all_is_taken : (client server : Setting) (asked : List Happened) (k : ClientKept) (trace : List Step) → AreConnected client server asked k trace
    → ArePlain client server asked trace → taken trace ≡ text_of asked → IsOutcome server trace on.next on.pending
    → length (handed_out trace).messages ≡ length (requests_asked asked)
all_is_taken client server asked k trace c plain all waits =
    let j = joined_ends client server asked k trace c plain in
    let rs = requests_asked asked in
    let t = asked_text_of client asked k c.client_ran in
    let b = texts_begin 0 rs t.others in
    let gs = reverse (completions 0 rs) in
    let i = input_of server trace in
    let p = parsed_out server trace waits in
    let is : taken trace ++ b.0 ≡ asked_text (map sent_request gs) = ap (λ (l : List ℕ). l ++ b.0) (all ∙ t.text_is) ∙ b.1 in
    let begun = begun_served i b.0 (map sent_request gs) p.0 is (each_asked server.hold_size gs (plain_completions 0 server.hold_size rs plain.requests t.others)) p.1 in
    let n = all_begun i b.0 plain.server_holds 0 p.0 (map sent_request gs) (omega arith) is b.2 begun in
    all_served (has_ended trace) trace (handed_out trace).messages rs (length p.0) (sound_from (has_ended trace) trace (reverse rs) j.requests.1) refl j.requests.1 p.2
    (omega (arith, n, completions_length 0 rs))
