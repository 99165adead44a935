-- What moves between a socket and its connection, one call after another.
use Rattle.std.proofs.Common.{◌≡◌, ℕ, Bool, true, List, [], ◌++◌, take, Option, Some, None, refl, sym, ap, ◌∙◌, inl, inr, append_assoc, append-nil}
use Rattle.std.specs.Io.KnownBytes.{Consumes, Keeps, Appends}
use Rattle.std.proofs.KnownBytes.{Consumes-nil, Appends-nil, Consumes-trans, Appends-trans}
use Rattle.std.proofs.lemmas.Bool.{cases_Bool, false≢true}
use Rattle.std.proofs.lemmas.List.{take-append-drop}
use Rattle.rooms.specs.Hub.{HubState}
use Rattle.app_chat.specs.Moves.{Moves}
use Rattle.app_chat.specs.Flow.{Stays, TakesIn, Writes, Sides, Passed, Passes}
use Rattle.app_chat.specs.declared.flow.TakenIn.TheVariants as came
use Rattle.app_chat.proofs.MoveLemmas.{moves_none, moves_equal, moves_then}

-- ---- known bytes

pub consumes_none : (a b : Option (List ℕ)) → Keeps a b → Consumes a b []
consumes_none None b keeps = tt
consumes_none (Some ps) None keeps = absurd keeps
consumes_none (Some ps) (Some qs) keeps = sym keeps

appends_none : (a b : Option (List ℕ)) → Keeps a b → Appends a b []
appends_none None b keeps = tt
appends_none (Some ps) None keeps = absurd keeps
appends_none (Some ps) (Some qs) keeps = keeps ∙ sym (append-nil ps)

-- ---- nothing, and two calls

passed_none : (i : ℕ) (a : Sides) → Passed i a a
passed_none i a = record {
  came = [];
  went = [];
  put = [];
  moves = moves_none i a.hub;
  left = Consumes-nil a.left;
  given = Appends-nil a.given;
  owed = append-nil a.owed;
}

pub passes_none : (i : ℕ) (a : Sides) → Passes i a a
passes_none i a = record { stays = λ lost. lost; passed = λ _. passed_none i a }

passed_then : (i : ℕ) (a b c : Sides) → Passed i a b → Passed i b c → Passed i a c
passed_then i a b c first second = record {
  came = first.came ++ second.came;
  went = first.went ++ second.went;
  put = first.put ++ second.put;
  moves = moves_then i a.hub b.hub c.hub first.came first.went second.came second.went first.moves second.moves;
  left = Consumes-trans a.left b.left c.left _ _ first.left second.left;
  given = Appends-trans a.given b.given c.given _ _ first.given second.given;
  owed =
      sym (append_assoc a.owed first.went second.went) ∙ ap (λ (l : List ℕ). l ++ second.went) first.owed
      ∙ append_assoc first.put b.owed second.went ∙ ap (λ (l : List ℕ). first.put ++ l) second.owed
      ∙ sym (append_assoc first.put second.put c.owed);
}

pub passes_then : (i : ℕ) (a b c : Sides) → Passes i a b → Passes i b c → Passes i a c
passes_then i a b c first second = record {
  stays = λ lost. second.stays (first.stays lost);
  passed = λ kept. elim (cases_Bool b.lost) [
    | inl lost ↦ absurd (false≢true (sym kept ∙ second.stays lost))
    | inr held ↦ passed_then i a b c (first.passed held) (second.passed kept)
  ];
}

-- ---- one call

abbrev side : HubState → Option (List ℕ) → Option (List ℕ) → List ℕ → Bool → Sides
side hub left given owed lost = record { hub = hub; left = left; given = given; owed = owed; lost = lost }

-- the peer is given up
pub passes_lost : (i : ℕ) (a b : Sides) → b.lost ≡ true → Passes i a b
passes_lost i a b lost = record { stays = λ _. lost; passed = λ kept. absurd (false≢true (sym kept ∙ lost)) }

passes_by : (i : ℕ) (a b : Sides) → b.lost ≡ a.lost → Passed i a b → Passes i a b
passes_by i a b same passed = record { stays = λ lost. same ∙ lost; passed = λ _. passed }

-- no bytes move
pub passes_quiet : (i : ℕ) (hub after : HubState) (left given : Option (List ℕ)) (owed more : List ℕ) (lost gone : Bool) → Moves i hub [] [] after
    → more ≡ owed → gone ≡ lost → Passes i (side hub left given owed lost) (side after left given more gone)
passes_quiet i hub after left given owed more lost gone moves same kept =
    passes_by i (side hub left given owed lost) (side after left given more gone) kept
    (record {
      came = [];
      went = [];
      put = [];
      moves = moves;
      left = Consumes-nil left;
      given = Appends-nil given;
      owed = append-nil owed ∙ sym same;
    })

-- a read
pub passes_read : (i : ℕ) (hub after : HubState) (left rest given : Option (List ℕ)) (owed : List ℕ) (lost : Bool) (n : ℕ)
    → TakesIn i hub left rest (came.Bytes n) after → Passes i (side hub left given owed lost) (side after rest given owed lost)
passes_read i hub after left rest given owed lost n x =
    passes_by i (side hub left given owed lost) (side after rest given owed lost) refl
    (record {
      came = x.0;
      went = [];
      put = [];
      moves = x.3;
      left = x.2;
      given = Appends-nil given;
      owed = append-nil owed;
    })

-- a read of nothing
pub passes_stays : (i : ℕ) (hub after : HubState) (left rest given : Option (List ℕ)) (owed : List ℕ) (lost : Bool) → Stays hub left rest after
    → Passes i (side hub left given owed lost) (side after rest given owed lost)
passes_stays i hub after left rest given owed lost x =
    passes_by i (side hub left given owed lost) (side after rest given owed lost) refl
    (record {
      came = [];
      went = [];
      put = [];
      moves = moves_equal i hub after x.0;
      left = x.1;
      given = Appends-nil given;
      owed = append-nil owed;
    })

-- a write of the connection
pub passes_fetched : (i : ℕ) (hub after : HubState) (left given : Option (List ℕ)) (owed bytes : List ℕ) (lost : Bool) → owed ≡ []
    → Moves i hub [] bytes after → Passes i (side hub left given owed lost) (side after left given bytes lost)
passes_fetched i hub after left given owed bytes lost empty moves =
    passes_by i (side hub left given owed lost) (side after left given bytes lost) refl
    (record {
      came = [];
      went = bytes;
      put = [];
      moves = moves;
      left = Consumes-nil left;
      given = Appends-nil given;
      owed = ap (λ (l : List ℕ). l ++ bytes) empty;
    })

-- a write to the peer
pub passes_written : (i : ℕ) (hub : HubState) (left given after : Option (List ℕ)) (owed rest : List ℕ) (lost : Bool) (n : ℕ)
    → Writes given owed after rest (Some n) → Passes i (side hub left given owed lost) (side hub left after rest lost)
passes_written i hub left given after owed rest lost n x =
    passes_by i (side hub left given owed lost) (side hub left after rest lost) refl
    (record {
      came = [];
      went = [];
      put = take n owed;
      moves = moves_none i hub;
      left = Consumes-nil left;
      given = x.0;
      owed = append-nil owed ∙ sym (take-append-drop n owed) ∙ ap (λ (l : List ℕ). take n owed ++ l) (sym x.1);
    })

-- a write that failed
pub passes_unwritten : (i : ℕ) (hub : HubState) (left given after : Option (List ℕ)) (owed rest : List ℕ) (lost : Bool)
    → Writes given owed after rest None → Passes i (side hub left given owed lost) (side hub left after rest lost)
passes_unwritten i hub left given after owed rest lost x =
    passes_by i (side hub left given owed lost) (side hub left after rest lost) refl
    (record {
      came = [];
      went = [];
      put = [];
      moves = moves_none i hub;
      left = Consumes-nil left;
      given = appends_none given after x.0;
      owed = append-nil owed ∙ sym x.1;
    })
