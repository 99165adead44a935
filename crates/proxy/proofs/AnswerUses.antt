-- What is done with an answer: it is refused, passed over, or passed on.
use Rattle.std.proofs.Common.{◌≡◌, Bool, true, false, not, ◌&&◌, [], ◌∷◌, Option, Some, None, refl, sym, ap}
use Rattle.std.specs.Prelude.{if◌then◌else◌}
use Rattle.std.proofs.lemmas.Bool.{false≢true}
use Rattle.model_h1.specs.Parse.{Body, content, still_open}
use Rattle.model_client.specs.AnswerParse.{Received, is_interim}
use Rattle.model_client.specs.AnswerReading.{Answer, answer_is}
use Rattle.model_proxy.specs.Answers.{Found, found_bad, found_body, found_by}
use Rattle.model_proxy.specs.Parts.{is_refused, is_good, good_answer, refused_answer}

abbrev received : Received
received = record { bytes = []; ended = false; hold_size = None }

abbrev body : Body
body = content [] still_open

abbrev found : Answer → Found
found a = found_body received a body

abbrev choice : Bool → Bool → Found → Found → Found
choice refused interim later here = if refused then found_bad else (if interim then later else here)

not_bad : (a : Answer) → found a ≡ found_bad → ⊥
not_bad a is = let no : ◌≡◌ {A = Option Answer} (Some a) None = ap (λ (f : Found). f.response) is in cc no

refused_by : (a : Answer) (refused interim : Bool) → choice refused interim (found a) (found a) ≡ found_bad → refused ≡ true
refused_by a true interim is = refl
refused_by a false true is = absurd (not_bad a is)
refused_by a false false is = absurd (not_bad a is)

pub is_refused_so : (a : Answer) → ((r : Received) (b : Body) (later : Found) → found_by r (answer_is a) b later ≡ found_bad) → is_refused a ≡ true
is_refused_so a x = refused_by a (is_refused a) (is_interim a.status) (x received body (found a))

over_by : (a : Answer) (refused interim : Bool) → choice refused interim found_bad (found a) ≡ found_bad → (not refused && not interim) ≡ false
over_by a true interim is = refl
over_by a false true is = refl
over_by a false false is = absurd (not_bad a is)

later_by : (a : Answer) (refused interim : Bool) → choice refused interim (found a) (found a) ≡ found a → refused ≡ false
later_by a true interim is = absurd (not_bad a (sym is))
later_by a false interim is = refl

interim_by : (refused interim : Bool) → refused ≡ false → (not refused && not interim) ≡ false → interim ≡ true
interim_by true interim is over = absurd (false≢true (sym is))
interim_by false true is over = refl
interim_by false false is over = absurd (false≢true (sym over))

pub is_passed_over : (a : Answer) → ((r : Received) (b : Body) (later : Found) → found_by r (answer_is a) b later ≡ later)
    → (is_refused a ≡ false) × (is_interim a.status ≡ true)
is_passed_over a x =
    let good = later_by a (is_refused a) (is_interim a.status) (x received body (found a)) in
    (good, interim_by (is_refused a) (is_interim a.status) good (over_by a (is_refused a) (is_interim a.status) (x received body found_bad)))

-- nothing of an answer that is passed over is handed out
pub over_out : (a : Answer) (refused interim : Bool) → refused ≡ false → interim ≡ true
    → (if refused then refused_answer a ∷ [] else (if interim then [] else good_answer a ∷ [])) ≡ []
over_out a true interim is over = absurd (false≢true (sym is))
over_out a false true is over = refl
over_out a false false is over = absurd (false≢true over)

good_by : (a : Answer) (refused interim : Bool) → choice refused interim found_bad (found a) ≡ found a → (not refused && not interim) ≡ true
good_by a true interim is = absurd (not_bad a (sym is))
good_by a false true is = absurd (not_bad a (sym is))
good_by a false false is = refl

pub is_passed_on : (a : Answer) → ((r : Received) (b : Body) (later : Found) → found_by r (answer_is a) b later ≡ found_body r a b) → is_good a ≡ true
is_passed_on a x = good_by a (is_refused a) (is_interim a.status) (x received body found_bad)
