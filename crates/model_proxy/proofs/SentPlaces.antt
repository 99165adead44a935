-- The requests as the theorem has them, where each was sent and when, are those of all that happened; what that gives of what went to each server.
use Rattle.std.proofs.Common.{◌≡◌, ◌⊎◌, ℕ, ◌+◌, ◌<◌, ◌≤◌, Bool, true, false, cond, eqb, suc, List, [], ◌∷◌, ◌++◌, length, map, reverse, flat_map, refl, sym, ap, ◌∙◌, subst, arith, inl, inr, Option, Some, None, append-nil}
use Rattle.std.specs.Prelude.{⊤, option_map}
use Rattle.std.specs.List.{AllByRecursion}
use Rattle.std.proofs.lemmas.Bool.{eqb-true, eqb-false, eq-eqb}
use Rattle.std.proofs.lemmas.List.{reverse-append, length-map}
use Rattle.std.proofs.lemmas.List.Concat.{flat_map-append}
use Rattle.model_h1.specs.Handed.{Begins}
use Rattle.model_h1.specs.Setting.{Setting}
use Rattle.model_client.specs.ClientKept.{ClientKept}
use Rattle.model_client.specs.ClientTrace.{written}
use Rattle.model_proxy.specs.Edge.{Edge}
use Rattle.model_proxy.specs.Forward.{is_forwardable, Sent, forward}
use Rattle.model_proxy.specs.Past.{ProxyStep, Server, numbered, servers, server_at, now, first_of}
use Rattle.model_proxy.specs.Exchange.{Pulled, Exchange, sent_on}
use Rattle.model_proxy.specs.Forwarding.{IsGiven, IsGivenTo, AreWholeButLast, IsSentRightly}
use Rattle.model_proxy.specs.Happenings.{Request, Link, Happenings, text_sent, AreWhole, AreWholeBehind, IsRightlySent, server_of, IsLink}
use Rattle.model_proxy.specs.Carried.{ForwarderKept, IsServer, Carries}
use Rattle.model_proxy.proofs.Given.{given_and_waiting, given_begins}

-- ---- the same requests

-- it was sent on the connection with this number, by so many steps, at the moment that they made
pub record IsPlaced (history : List ProxyStep) (count : ℕ) (r : Request) (x : Exchange) : Type 0 where
  pub number : ℕ
  pub server : x.server ≡ Some number
  pub there : number < count
  pub by : x.sent_at ≤ length history
  pub at : r.sent_at ≡ Some (now (first_of x.sent_at history))

pub record IsSame (history : List ProxyStep) (count : ℕ) (r : Request) (x : Exchange) : Type 0 where
  pub pulled : x.pulled ≡ r.pulled
  pub refused : x.was_refused ≡ r.was_refused
  pub placed : ((x.server ≡ None) × (r.sent_at ≡ None)) ⊎ IsPlaced history count r x

abbrev pub AreSame : List ProxyStep → ℕ → List Request → List Exchange → Type 0
AreSame history count [] [] = ⊤
AreSame history count (r ∷ rs) (x ∷ xs) = IsSame history count r x × AreSame history count rs xs
AreSame history count _ _ = ⊥

-- the connection with this number, of which the oldest has 0
abbrev pub no_link : Link
no_link = record { happened = []; sent = [] }

abbrev pub link_at : ℕ → List Link → Link
link_at k [] = no_link
link_at k (l ∷ older) = cond (eqb k (length older)) l (link_at k older)

-- what was sent on each connection is what the requests say
abbrev pub AreOn : Edge → List ProxyStep → List Exchange → List Link → Type 0
AreOn edge history xs links = (k : ℕ) → sent_on edge history k xs ≡ reverse (link_at k links).sent

-- ---- connections by their numbers

pub numbered_link : (k : ℕ) (links : List Link) → numbered k (map server_of links) ≡ server_of (link_at k links)
numbered_link k [] = refl
numbered_link k (l ∷ older) =
    ap (λ (n : ℕ). cond (eqb k n) (server_of l) (numbered k (map server_of older))) (length-map older server_of)
    ∙ ap (λ (s : Server). cond (eqb k (length older)) (server_of l) s) (numbered_link k older)
    ∙ by_test (eqb k (length older))
  where
    by_test : (t : Bool) → cond t (server_of l) (server_of (link_at k older)) ≡ server_of (cond t l (link_at k older))
    by_test true = refl
    by_test false = refl

-- what is so of each is so of this one
pub of_link : (P : Link → Type 0) (links : List Link) (k : ℕ) → AllByRecursion P links → k < length links → P (link_at k links)
of_link P [] k all low = let none : ⊥ = omega (arith, low) in absurd none
of_link P (l ∷ older) k all low = by_test (eqb k (length older)) refl (of_link P older k all.1)
  where
    by_test : (t : Bool) → eqb k (length older) ≡ t → (k < length older → P (link_at k older)) → P (cond t l (link_at k older))
    by_test true e further = all.0
    by_test false e further = further (let other = eqb-false k (length older) e in omega (arith, low, other))

pub newest_link : (l : Link) (older : List Link) (k : ℕ) → k + 1 ≡ suc (length older) → link_at k (l ∷ older) ≡ l
newest_link l older k is = ap (λ (t : Bool). cond t l (link_at k older)) (eq-eqb k (length older) (omega (arith, is)))

pub older_link : (l : Link) (older : List Link) (k : ℕ) → k < length older → link_at k (l ∷ older) ≡ link_at k older
older_link l older k low = by_test (eqb k (length older)) refl
  where
    by_test : (t : Bool) → eqb k (length older) ≡ t → cond t l (link_at k older) ≡ link_at k older
    by_test true e = let same = eqb-true k (length older) e in let none : ⊥ = omega (arith, low, same) in absurd none
    by_test false e = refl

-- one that isn't there has nothing
pub link_behind : (links : List Link) (k : ℕ) → length links ≤ k → link_at k links ≡ no_link
link_behind [] k high = refl
link_behind (l ∷ older) k high = by_test (eqb k (length older)) refl (link_behind older k (omega (arith, high)))
  where
    by_test : (t : Bool) → eqb k (length older) ≡ t → link_at k older ≡ no_link → cond t l (link_at k older) ≡ no_link
    by_test true e further = let same = eqb-true k (length older) e in let none : ⊥ = omega (arith, high, same) in absurd none
    by_test false e further = further

-- ---- the text of what was sent, the oldest first

pub text_in_order : (ss : List Sent) → text_sent ss ≡ flat_map forward (reverse ss)
text_in_order [] = refl
text_in_order (s ∷ before) =
    ap (λ (t : List ℕ). t ++ forward s) (text_in_order before)
    ∙ ap (λ (t : List ℕ). flat_map forward (reverse before) ++ t) (sym (append-nil (forward s)))
    ∙ sym (flat_map-append forward (reverse before) (s ∷ []))
    ∙ ap (flat_map forward) (sym (reverse-append (s ∷ []) before))

-- ---- what was given

begun : (waiting : Option (List ℕ)) (given text : List ℕ) → Begins given text → IsGiven waiting false given text
begun None given text x = x
begun (Some rest) given text x = x

given_on : (setting : Setting) (kept : Option ClientKept) (links : List Link) (k : ℕ) (newest : Bool) → eqb (k + 1) (length links) ≡ newest
    → IsServer setting kept links → AllByRecursion (IsLink setting) links → k < length links
    → IsGiven (option_map (λ c. c.buffered) kept) newest (written (link_at k links).happened) (text_sent (link_at k links).sent)
given_on setting kept links k false e server all low =
    begun (option_map (λ c. c.buffered) kept) _ _ (given_begins setting (link_at k links) (of_link (IsLink setting) links k all low))
given_on setting None links k true e server all low = given_begins setting (link_at k links) (of_link (IsLink setting) links k all low)
given_on setting (Some c) [] k true e server all low = absurd server
given_on setting (Some c) (l ∷ older) k true e server all low =
    subst (λ (m : Link). written m.happened ++ c.buffered ≡ text_sent m.sent) (sym (newest_link l older k (eqb-true (k + 1) (suc (length older)) e)))
    (given_and_waiting setting l c all.0 server)

module _ (edge : Edge) (theirs ours : Setting) where
  -- as many connections
  pub counted : (history : List ProxyStep) (all : Happenings) → map server_of all.links ≡ servers history → length all.links ≡ length (servers history)
  counted history all same = sym (length-map all.links server_of) ∙ ap (λ (ss : List Server). length ss) same

  pub towards_each : (kept : ForwarderKept) (history : List ProxyStep) (all : Happenings) (xs : List Exchange) → Carries edge theirs ours kept history all
      → AreOn edge history xs all.links → (k : ℕ) → k < length (servers history)
      → IsGivenTo edge history (option_map (λ c. c.buffered) kept.server) xs k
  towards_each kept history all xs x on k low =
      let waiting = option_map (λ (c : ClientKept). c.buffered) kept.server in
      let many = counted history all x.forwarded.sums.servers in
      let same : server_at k history ≡ server_of (link_at k all.links) = ap (numbered k) (sym x.forwarded.sums.servers) ∙ numbered_link k all.links in
      let text : text_sent (link_at k all.links).sent ≡ flat_map forward (sent_on edge history k xs) =
      text_in_order (link_at k all.links).sent ∙ ap (flat_map forward) (sym (on k)) in
      let given = given_on ours kept.server all.links k (eqb (k + 1) (length all.links)) refl x.server x.forwarded.sent.links (omega (arith, low, many)) in
      subst (λ (n : ℕ). IsGiven waiting (eqb (k + 1) n) (server_at k history).given (flat_map forward (sent_on edge history k xs))) many
      (subst (λ (s : Server). IsGiven waiting (eqb (k + 1) (length all.links)) s.given (flat_map forward (sent_on edge history k xs))) (sym same)
      (subst (λ (t : List ℕ). IsGiven waiting (eqb (k + 1) (length all.links)) (server_of (link_at k all.links)).given t) text given))

-- ---- all but the last are whole

whole_more : (ss : List Sent) (s : Sent) → AllByRecursion (λ s. s.is_whole ≡ true) ss → AreWholeButLast (ss ++ s ∷ [])
whole_more [] s all = tt
whole_more (t ∷ []) s all = (all.0, tt)
whole_more (t ∷ u ∷ more) s all = (all.0, whole_more (u ∷ more) s all.1)

all_reversed : (ss : List Sent) → AreWhole ss → AreWhole (reverse ss)
all_reversed [] all = tt
all_reversed (s ∷ ss) all = subst AreWhole (sym (reverse-append (s ∷ []) ss)) (one_more (reverse ss) (all_reversed ss all.1))
  where
    one_more : (ts : List Sent) → AreWhole ts → AreWhole (ts ++ s ∷ [])
    one_more [] x = (all.0, tt)
    one_more (t ∷ ts) x = (x.0, one_more ts x.1)

whole_in_order : (ss : List Sent) → AreWholeBehind ss → AreWholeButLast (reverse ss)
whole_in_order [] x = tt
whole_in_order (s ∷ ss) x = subst AreWholeButLast (sym (reverse-append (s ∷ []) ss)) (whole_more (reverse ss) s (all_reversed ss x))

whole_link : (setting : Setting) (links : List Link) → AllByRecursion (IsLink setting) links → (k : ℕ) → AreWholeBehind (link_at k links).sent
whole_link setting [] all k = tt
whole_link setting (l ∷ older) all k = by_test (eqb k (length older)) (whole_link setting older all.1 k)
  where
    by_test : (t : Bool) → AreWholeBehind (link_at k older).sent → AreWholeBehind (cond t l (link_at k older)).sent
    by_test true further = all.0.whole
    by_test false further = further

pub whole_on_each : (edge : Edge) (setting : Setting) (history : List ProxyStep) (xs : List Exchange) (links : List Link) → AllByRecursion (IsLink setting) links
    → AreOn edge history xs links → (k : ℕ) → AreWholeButLast (sent_on edge history k xs)
whole_on_each edge setting history xs links all on k =
    subst AreWholeButLast (sym (on k)) (whole_in_order (link_at k links).sent (whole_link setting links all k))

-- ---- only such that can be sent on

one_rightly : (edge : Edge) (history : List ProxyStep) (r : Request) (x : Exchange) (at : Option ℕ) (was : Bool) → IsSame history (length (servers history)) r x
    → r.sent_at ≡ at → r.was_refused ≡ was → IsRightlySent edge r.pulled at was → IsSentRightly edge history x
one_rightly edge history r x at was same at_is was_is right = λ k e. by_place same.placed k e
  where
    by_place : ((x.server ≡ None) × (r.sent_at ≡ None)) ⊎ IsPlaced history (length (servers history)) r x → (k : ℕ) → x.server ≡ Some k
        → (is_forwardable edge x.pulled.head ≡ true) × (x.was_refused ≡ false) × (k < length (servers history))
    by_place (inl none) k e = let no : ◌≡◌ {A = Option ℕ} None (Some k) = sym none.0 ∙ e in absurd (cc no)
    by_place (inr p) k e =
        let both : Some p.number ≡ Some k = sym p.server ∙ e in
        let number : p.number ≡ k = cc in
        let y = by_right at was (sym at_is ∙ p.at) was_is right in
        (ap (λ (q : Pulled). is_forwardable edge q.head) same.pulled ∙ y.0, same.refused ∙ y.1, subst (λ (n : ℕ). n < length (servers history)) number p.there)
      where
        by_right : (at : Option ℕ) (was : Bool) → at ≡ Some (now (first_of x.sent_at history)) → r.was_refused ≡ was → IsRightlySent edge r.pulled at was
            → (is_forwardable edge r.pulled.head ≡ true) × (r.was_refused ≡ false)
        by_right None was e is right = let no : ◌≡◌ {A = Option ℕ} None (Some (now (first_of x.sent_at history))) = e in absurd (cc no)
        by_right (Some moment) false e is right = (right, is)
        by_right (Some moment) true e is right = absurd right

pub all_rightly : (edge : Edge) (history : List ProxyStep) (rs : List Request) (xs : List Exchange) → AreSame history (length (servers history)) rs xs
    → AllByRecursion (λ r. IsRightlySent edge r.pulled r.sent_at r.was_refused) rs → AllByRecursion (IsSentRightly edge history) xs
all_rightly edge history [] [] same all = tt
all_rightly edge history [] (x ∷ xs) same all = absurd same
all_rightly edge history (r ∷ rs) [] same all = absurd same
all_rightly edge history (r ∷ rs) (x ∷ xs) same all =
    (one_rightly edge history r x r.sent_at r.was_refused same.0 refl refl all.0, all_rightly edge history rs xs same.1 all.1)

-- ---- the same of each

pub same_pulled : (history : List ProxyStep) (count : ℕ) (rs : List Request) (xs : List Exchange) → AreSame history count rs xs
    → map (λ x. x.pulled) xs ≡ map (λ r. r.pulled) rs
same_pulled history count [] [] same = refl
same_pulled history count [] (x ∷ xs) same = absurd same
same_pulled history count (r ∷ rs) [] same = absurd same
same_pulled history count (r ∷ rs) (x ∷ xs) same =
    ap (λ (p : Pulled). p ∷ map (λ (x : Exchange). x.pulled) xs) same.0.pulled
    ∙ ap (λ (ps : List Pulled). r.pulled ∷ ps) (same_pulled history count rs xs same.1)
