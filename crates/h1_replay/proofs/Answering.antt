-- From a reply to what the program answers.
use Rattle.std.proofs.Common.{◌≡◌, ◌<◌, ◌≤◌, ◌↔◌, ◌⊎◌, ℕ, Bool, true, false, not, List, [], ◌∷◌, length, get_or, map, codes, Option, None, Some, inl, inr, refl, sym, ap, ◌∙◌, subst₂, arith, IsTrue}
use Rattle.std.specs.Prelude.{IfSome}
use Rattle.h1_generated.proofs.Runs.{allowed}
use Rattle.std.specs.Str.{bytes_eq}
use Rattle.std.proofs.lemmas.Slice.Eq.{bytes_eq-Decides}
use Rattle.h1_replay.proofs.Reading.{given_quiet, whole_quiet, unfinished_quiet}
use Rattle.http_config.specs.Causes.{Rose, counted}
use Rattle.h1_replay.specs.Input.{Told, ReadsWhole}
use Rattle.h1_replay.specs.Run.{IsReplay, AreNumbers, IsGen, IsAnswer, AreTaken, done, summed, gen_no_memory, usage, bad_line, misplaced, read_fault, too_long, no_memory}
use Rattle.h1_replay.specs.Reply.{status_of_reply, text_of_reply, IsReplyTo, IsRunReply}
use Rattle.h1_replay.specs.declared.reply.Reply.{Reply}
use Rattle.h1_replay.specs.declared.reply.Reply.TheVariants.{Done, Usage, BadLine, Misplaced, ReadFault, TooLong, NoMemory}

-- the reply to a whole input is the program's answer
pub IsAnswer-reply : (words : List (List ℕ)) (before now : Told) (bytes : List ℕ) (reply : Reply) → IsReplay words → ReadsWhole before now bytes → IsReplyTo bytes reply
    → IsAnswer words before now (status_of_reply reply) (text_of_reply reply)
IsAnswer-reply words before now bytes (Done text) command read is = done bytes command read is refl
IsAnswer-reply words before now bytes Usage command read is = absurd is
IsAnswer-reply words before now bytes (BadLine text) command read is = bad_line bytes command read is refl
IsAnswer-reply words before now bytes (Misplaced text) command read is = misplaced bytes command read is refl
IsAnswer-reply words before now bytes ReadFault command read is = absurd is
IsAnswer-reply words before now bytes TooLong command read is = absurd is
IsAnswer-reply words before now bytes NoMemory command read is = no_memory command (inr (bytes, read)) refl refl

-- a list of one is its first
pub one_item : {X : Type 0} (items : List X) (item : X) → 1 ≤ length items → length items < 2 → item ≡ get_or items 0 item → items ≡ item ∷ []
one_item [] item some one is = absurd (omega arith)
one_item (x ∷ []) item some one is = ap (λ y. y ∷ []) (sym is)
one_item (x ∷ y ∷ more) item some one is = absurd (omega arith)

-- a test of the one word decides whether the words are the command
pub IsReplay-tested : {X : Type 0} (spelled : X → List ℕ) (words : List X) (word : X) (bytes : List ℕ) (test : Bool) → words ≡ word ∷ [] → bytes ≡ spelled word → test ≡ bytes_eq bytes (codes "replay")
    → IsTrue test ↔ IsReplay (map spelled words)
IsReplay-tested spelled words word bytes test one is tested =
    let decides = bytes_eq-Decides bytes (codes "replay") in
    let mapped : map spelled words ≡ bytes ∷ [] = ap (map spelled) one ∙ ap (λ w. w ∷ []) (sym is) in (
      λ passed. let same = decides.0 (sym tested ∙ passed) in mapped ∙ ap (λ w. w ∷ []) same,
      λ command. let same : bytes ∷ [] ≡ codes "replay" ∷ [] = sym mapped ∙ command in tested ∙ decides.1 (cc),
    )

-- ---- how many reads failed

pub answer_fault : (words : List (List ℕ)) (before now : Told) (status : ℕ) (text : List ℕ) → IsAnswer words before now status text → status ≡ 4 → now.faults ≡ counted before.faults
answer_fault words before now status text (done bytes _ read is zero) four = absurd (omega (arith, zero, four))
answer_fault words before now status text (summed seed count gen unread _ zero) four = absurd (omega (arith, zero, four))
answer_fault words before now status text (gen_no_memory seed count gen unread _ seven) four = absurd (omega (arith, seven, four))
answer_fault words before now status text (usage other unread _ one) four = absurd (omega (arith, one, four))
answer_fault words before now status text (bad_line bytes _ read is two) four = absurd (omega (arith, two, four))
answer_fault words before now status text (misplaced bytes _ read is three) four = absurd (omega (arith, three, four))
answer_fault words before now status text (read_fault _ read _ is) four = read.last.faults ∙ ap counted (given_quiet before read.mid read.bytes read.given)
answer_fault words before now status text (too_long _ read _ six) four = absurd (omega (arith, six, four))
answer_fault words before now status text (no_memory _ read _ seven) four = absurd (omega (arith, seven, four))

pub answer_quiet : (words : List (List ℕ)) (before now : Told) (status : ℕ) (text : List ℕ) → IsAnswer words before now status text → (status ≡ 4 → ⊥) → now.faults ≡ before.faults
answer_quiet words before now status text (done bytes _ read is zero) not_four = whole_quiet before now bytes read
answer_quiet words before now status text (summed seed count gen unread _ zero) not_four = ap (λ (t : Told). t.faults) unread
answer_quiet words before now status text (gen_no_memory seed count gen unread _ seven) not_four = ap (λ (t : Told). t.faults) unread
answer_quiet words before now status text (usage other unread _ one) not_four = ap (λ (t : Told). t.faults) unread
answer_quiet words before now status text (bad_line bytes _ read is two) not_four = whole_quiet before now bytes read
answer_quiet words before now status text (misplaced bytes _ read is three) not_four = whole_quiet before now bytes read
answer_quiet words before now status text (read_fault _ read _ four) not_four = absurd (not_four four)
answer_quiet words before now status text (too_long _ read _ six) not_four = given_quiet before now read.bytes read.given
answer_quiet words before now status text (no_memory _ read _ seven) not_four = unfinished_quiet before now read

pub fault_rose : (words : List (List ℕ)) (before now : Told) (status : ℕ) (text : List ℕ) → IsAnswer words before now status text → status ≡ 4 → Rose before.faults now.faults
fault_rose words before now status text answer four = omega (arith, answer_fault words before now status text answer four)

-- ---- a generated run

-- both commands aren't asked for at once
pub no_both : (words : List (List ℕ)) (seed count : ℕ) → IsReplay words → IsGen words seed count → ⊥
no_both words seed count command gen =
    let one = ap (λ (l : List (List ℕ)). length l) command in
    let three = ap (λ (l : List (List ℕ)). length l) gen.words_are in
    omega (arith, one, three)

-- the reply to one is the program's answer, and the source isn't asked
pub run_answer : (words : List (List ℕ)) (source : Told) (seed count : ℕ) (reply : Reply) → IsGen words seed count → IsRunReply seed count reply
    → IsAnswer words source source (status_of_reply reply) (text_of_reply reply)
run_answer words source seed count (Done text) gen is = summed seed count gen refl is refl
run_answer words source seed count Usage gen is = absurd is
run_answer words source seed count (BadLine text) gen is = absurd is
run_answer words source seed count (Misplaced text) gen is = absurd is
run_answer words source seed count ReadFault gen is = absurd is
run_answer words source seed count TooLong gen is = absurd is
run_answer words source seed count NoMemory gen is = gen_no_memory seed count gen refl refl refl

pub gen_status : (words : List (List ℕ)) (before now : Told) (status : ℕ) (text : List ℕ) (seed count : ℕ) → IsAnswer words before now status text
    → IsGen words seed count → (status ≡ 0) ⊎ (status ≡ 7)
gen_status words before now status text seed count (done bytes command read is zero) gen = inl zero
gen_status words before now status text seed count (summed s c asked unread _ zero) gen = inl zero
gen_status words before now status text seed count (gen_no_memory s c asked unread _ seven) gen = inr seven
gen_status words before now status text seed count (usage other unread _ one) gen = absurd (other.not_gen seed count gen)
gen_status words before now status text seed count (bad_line bytes command read is two) gen = absurd (no_both words seed count command gen)
gen_status words before now status text seed count (misplaced bytes command read is three) gen = absurd (no_both words seed count command gen)
gen_status words before now status text seed count (read_fault command read _ four) gen = absurd (no_both words seed count command gen)
gen_status words before now status text seed count (too_long command read _ six) gen = absurd (no_both words seed count command gen)
gen_status words before now status text seed count (no_memory command read _ seven) gen = inr seven

pub gen_taken : (words : List (List ℕ)) (seed count : ℕ) → IsGen words seed count → AreTaken seed count
gen_taken words seed count gen = allowed seed count (omega (arith, gen.numbers.within))

-- ---- which words ask for one

-- a list of three is its elements
three_items : {X : Type 0} (items : List X) (a b c : X) → 3 ≤ length items → length items < 4 → a ≡ get_or items 0 a → b ≡ get_or items 1 b → c ≡ get_or items 2 c
    → items ≡ a ∷ b ∷ c ∷ []
three_items [] a b c some few x y z = absurd (omega (arith, some))
three_items (u ∷ []) a b c some few x y z = absurd (omega (arith, some))
three_items (u ∷ v ∷ []) a b c some few x y z = absurd (omega (arith, some))
three_items (u ∷ v ∷ w ∷ []) a b c some few x y z = λ i. sym x i ∷ sym y i ∷ sym z i ∷ []
three_items (u ∷ v ∷ w ∷ t ∷ more) a b c some few x y z = absurd (omega (arith, few))

-- three words, by what they spell
pub spelled_three : {X : Type 0} (spelled : X → List ℕ) (items : List X) (a b c : X) (first second third : List ℕ) → 3 ≤ length items → length items < 4
    → a ≡ get_or items 0 a → b ≡ get_or items 1 b → c ≡ get_or items 2 c → first ≡ spelled a → second ≡ spelled b → third ≡ spelled c
    → map spelled items ≡ first ∷ second ∷ third ∷ []
spelled_three spelled items a b c first second third some few x y z one two three =
    ap (map spelled) (three_items items a b c some few x y z) ∙ (λ i. sym one i ∷ sym two i ∷ sym three i ∷ [])

-- which are the numbers of the two behind the first
pub gen_numbers : (words : List (List ℕ)) (first second third : List ℕ) (seed count : ℕ) → words ≡ first ∷ second ∷ third ∷ [] → IsGen words seed count
    → AreNumbers second third seed count
gen_numbers words first second third seed count are gen =
    let same = sym gen.words_are ∙ are in
    let two : gen.seed_word ≡ second = ap (λ (l : List (List ℕ)). get_or l 1 []) same in
    let three : gen.count_word ≡ third = ap (λ (l : List (List ℕ)). get_or l 2 []) same in
    subst₂ (λ (a b : List ℕ). AreNumbers a b seed count) two three gen.numbers

-- the first is the command's name
named : (first : List ℕ) (differs : Bool) → differs ≡ not (bytes_eq first (codes "gen")) → differs ≡ false → first ≡ codes "gen"
named first differs is same = (bytes_eq-Decides first (codes "gen")).0 (equal (bytes_eq first (codes "gen")) (sym is ∙ same))
  where
    equal : (b : Bool) → not b ≡ false → b ≡ true
    equal true e = refl
    equal false e = cc

is_gen : (words : List (List ℕ)) (first second third : List ℕ) (seed count : ℕ) → words ≡ first ∷ second ∷ third ∷ [] → first ≡ codes "gen"
    → AreNumbers second third seed count → IsGen words seed count
is_gen words first second third seed count are same numbers =
    record { seed_word = second; count_word = third; words_are = are ∙ ap (λ (w : List ℕ). w ∷ second ∷ third ∷ []) same; numbers = numbers }

pub gen_read : (words : List (List ℕ)) (first second third : List ℕ) (differs : Bool) (read : Option (ℕ × ℕ)) → words ≡ first ∷ second ∷ third ∷ []
    → differs ≡ not (bytes_eq first (codes "gen")) → differs ≡ false → IfSome read (λ r. AreNumbers second third r.0 r.1) → IfSome read (λ r. IsGen words r.0 r.1)
gen_read words first second third differs None are is same numbers = numbers
gen_read words first second third differs (Some r) are is same numbers = is_gen words first second third r.0 r.1 are (named first differs is same) numbers
