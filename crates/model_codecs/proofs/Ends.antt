-- What is given of all messages, in the words of the laws.
use Rattle.std.proofs.Common.{ℕ, ◌<◌, Bool, List, sym, ◌∙◌, subst, append-nil}
use Rattle.h1_codec.specs.Kind.{Kind, IsOneReading}
use Rattle.h1_codec.specs.FramedMessages.{nothing, Standing}
use Rattle.model_codecs.specs.Acts.{Act, told}
use Rattle.model_codecs.specs.Given.{Sent, AreWhole, AreGiven}
use Rattle.model_codecs.proofs.Runs.{between, Gives}

module _ {I : Type 0} (k : Kind I) (one : IsOneReading k) (is_bare : Bool) (limit : ℕ) (some : 0 < limit) where
  pub given_all : (ss : List (Sent k)) (acts : List (Act I)) (more : List ℕ) (last : Standing) (rest : List ℕ)
      → Gives k one is_bare limit some (between ss) acts more last rest → AreGiven k is_bare ss acts more
  given_all ss acts more last rest x =
      let t = told acts nothing in
      record {
        messages = t.messages;
        are = λ i. record { part = x.gives.0 i; messages = t.messages; stop = x.gives.1 i };
        begun = x.gives.2;
        no_fault = x.fine;
        all = λ none waiting.
            let y = x.all none waiting in
            subst (AreWhole k is_bare t.messages) (sym (y.1 ∙ append-nil y.0)) y.2;
      }
