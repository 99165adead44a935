-- What is summed up of a run.
use Rattle.std.specs.Prelude.{ℕ, List, ◌++◌, length, sum_by, codes, decimal}
use Rattle.model_h1.specs.Sums.{Step, taken, written}
use Rattle.model_h1.specs.Past.{step_bytes, head_count}

-- How many events there were, bytes taken, heads handed out, and bytes of bodies; and how many bytes the text has,
-- written or still to be.
pub record Counts : Type 0 where
  pub events : ℕ
  pub taken : ℕ
  pub heads : ℕ
  pub body : ℕ
  pub text : ℕ

-- those of a trace, with the bytes that are still to be written
abbrev pub counts_of : List Step → List ℕ → Counts
counts_of trace buffered =
    record {
      events = length trace;
      taken = length (taken trace);
      heads = head_count trace;
      body = sum_by (λ s. step_bytes s.outcome) trace;
      text = length (written trace ++ buffered);
    }

-- a word and a number on a line
abbrev pub count_line : List ℕ → ℕ → List ℕ
count_line word n = word ++ (codes " " ++ (decimal n ++ codes "\n"))

-- the summary of these counts, and of the connection's state, which is a word
abbrev pub summary_text : Counts → List ℕ → List ℕ
summary_text c state =
    count_line (codes "events") c.events
    ++ (count_line (codes "taken") c.taken
    ++ (count_line (codes "heads") c.heads
    ++ (count_line (codes "body") c.body
    ++ (count_line (codes "text") c.text ++ (codes "state " ++ (state ++ codes "\n"))))))
