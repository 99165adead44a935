-- Where each request was sent, and when, stays that of all that happened, move by move.
use Rattle.std.proofs.Common.{◌≡◌, ◌⊎◌, ℕ, ◌-◌, ◌<◌, ◌≤◌, Bool, true, false, cond, eqb, suc, List, [], ◌∷◌, ◌++◌, length, map, filter, reverse, drop, refl, sym, ap, ◌∙◌, arith, inl, inr, Option, Some, None}
use Rattle.std.specs.List.{AllByRecursion}
use Rattle.std.proofs.lemmas.Bool.{eqb-true, eqb-false, eq-eqb, ne_eqb}
use Rattle.std.proofs.lemmas.List.{reverse-append, map-append, append_cancel_right}
use Rattle.model_client.specs.ClientTrace.{Happened}
use Rattle.model_proxy.specs.Edge.{Edge}
use Rattle.model_proxy.specs.Forward.{Sent}
use Rattle.model_proxy.specs.Past.{ProxyStep, now, first_of}
use Rattle.model_proxy.specs.Exchange.{Pulled, Exchange, is_on, sent_of, sent_on}
use Rattle.model_proxy.specs.Happenings.{Request, Link}
use Rattle.model_proxy.specs.Happenings as happened
use Rattle.model_proxy.proofs.SentPlaces.{IsPlaced, IsSame, AreSame, no_link, link_at, AreOn, link_behind}

-- ---- moments

pub first_before : (n : ℕ) (s : ProxyStep) (history : List ProxyStep) → n ≤ length history → first_of n (s ∷ history) ≡ first_of n history
first_before n s history low =
    let more : length (s ∷ history) - n ≡ suc (length history - n) = omega (arith, low) in
    ap (λ (m : ℕ). drop m (s ∷ history)) more

pub first_all : (history : List ProxyStep) → first_of (length history) history ≡ history
first_all history =
    let none : length history - length history ≡ 0 = omega arith in
    ap (λ (m : ℕ). drop m history) none

-- ---- lists of requests

-- whether it is on a connection is said by the number alone
off : (k : ℕ) (x : Exchange) → x.server ≡ None → is_on k x ≡ false
off k x none = ap (λ (s : Option ℕ). is_on k (record x { server = s })) none

on_number : (k n : ℕ) (x : Exchange) → x.server ≡ Some n → is_on k x ≡ eqb n k
on_number k n x is = ap (λ (s : Option ℕ). is_on k (record x { server = s })) is

leaves : (k : ℕ) (x : Exchange) (xs : List Exchange) → is_on k x ≡ false → filter (is_on k) (x ∷ xs) ≡ filter (is_on k) xs
leaves k x xs is = ap (λ (t : Bool). cond t (x ∷ filter (is_on k) xs) (filter (is_on k) xs)) is

takes : (k : ℕ) (x : Exchange) (xs : List Exchange) → is_on k x ≡ true → filter (is_on k) (x ∷ xs) ≡ x ∷ filter (is_on k) xs
takes k x xs is = ap (λ (t : Bool). cond t (x ∷ filter (is_on k) xs) (filter (is_on k) xs)) is

in_order : (edge : Edge) (history : List ProxyStep) (x : Exchange) (xs : List Exchange)
    → map (sent_of edge history) (reverse (x ∷ xs)) ≡ map (sent_of edge history) (reverse xs) ++ sent_of edge history x ∷ []
in_order edge history x xs =
    ap (map (sent_of edge history)) (reverse-append (x ∷ []) xs) ∙ map-append (sent_of edge history) (reverse xs) (x ∷ [])

-- ---- one more step

abbrev pub IsSentBy : ℕ → Exchange → Type 0
IsSentBy n x = (k : ℕ) → x.server ≡ Some k → x.sent_at ≤ n

pub sent_by_then : (history : List ProxyStep) (count : ℕ) (rs : List Request) (xs : List Exchange) → AreSame history count rs xs
    → AllByRecursion (IsSentBy (length history)) xs
sent_by_then history count [] [] same = tt
sent_by_then history count [] (x ∷ xs) same = absurd same
sent_by_then history count (r ∷ rs) [] same = absurd same
sent_by_then history count (r ∷ rs) (x ∷ xs) same = (λ k e. by_place same.0.placed k e, sent_by_then history count rs xs same.1)
  where
    by_place : ((x.server ≡ None) × (r.sent_at ≡ None)) ⊎ IsPlaced history count r x → (k : ℕ) → x.server ≡ Some k → x.sent_at ≤ length history
    by_place (inl none) k e = let no : ◌≡◌ {A = Option ℕ} None (Some k) = sym none.0 ∙ e in absurd (cc no)
    by_place (inr p) k e = p.by

one_later : (s : ProxyStep) (history : List ProxyStep) (count more : ℕ) (r : Request) (x : Exchange) → count ≤ more → IsSame history count r x
    → IsSame (s ∷ history) more r x
one_later s history count more r x most same = record { pulled = same.pulled; refused = same.refused; placed = by_place same.placed }
  where
    by_place : ((x.server ≡ None) × (r.sent_at ≡ None)) ⊎ IsPlaced history count r x → ((x.server ≡ None) × (r.sent_at ≡ None)) ⊎ IsPlaced (s ∷ history) more r x
    by_place (inl none) = inl none
    by_place (inr p) = inr (record {
      number = p.number;
      server = p.server;
      there = let low = p.there in omega (arith, low, most);
      by = let low = p.by in omega (arith, low);
      at = p.at ∙ ap (λ (h : List ProxyStep). Some (now h)) (sym (first_before x.sent_at s history p.by));
    })

-- also where a connection is new
pub same_later : (s : ProxyStep) (history : List ProxyStep) (count more : ℕ) (rs : List Request) (xs : List Exchange) → count ≤ more → AreSame history count rs xs
    → AreSame (s ∷ history) more rs xs
same_later s history count more [] [] most same = tt
same_later s history count more [] (x ∷ xs) most same = absurd same
same_later s history count more (r ∷ rs) [] most same = absurd same
same_later s history count more (r ∷ rs) (x ∷ xs) most same =
    (one_later s history count more r x most same.0, same_later s history count more rs xs most same.1)

sent_later : (edge : Edge) (s : ProxyStep) (history : List ProxyStep) (k : ℕ) (xs : List Exchange) → AllByRecursion (IsSentBy (length history)) xs
    → sent_on edge (s ∷ history) k xs ≡ sent_on edge history k xs
sent_later edge s history k [] all = refl
sent_later edge s history k (x ∷ xs) all = by_server (sent_later edge s history k xs all.1) x.server refl
  where
    passed_by : sent_on edge (s ∷ history) k xs ≡ sent_on edge history k xs → is_on k x ≡ false
        → sent_on edge (s ∷ history) k (x ∷ xs) ≡ sent_on edge history k (x ∷ xs)
    passed_by earlier is =
        ap (λ (ys : List Exchange). map (sent_of edge (s ∷ history)) (reverse ys)) (leaves k x xs is) ∙ earlier
        ∙ sym (ap (λ (ys : List Exchange). map (sent_of edge history) (reverse ys)) (leaves k x xs is))

    by_number : sent_on edge (s ∷ history) k xs ≡ sent_on edge history k xs → (n : ℕ) → x.server ≡ Some n → (t : Bool) → eqb n k ≡ t
        → sent_on edge (s ∷ history) k (x ∷ xs) ≡ sent_on edge history k (x ∷ xs)
    by_number earlier n at false is = passed_by earlier (on_number k n x at ∙ is)
    by_number earlier n at true is =
        let here : is_on k x ≡ true = on_number k n x at ∙ is in
        ap (λ (ys : List Exchange). map (sent_of edge (s ∷ history)) (reverse ys)) (takes k x xs here)
        ∙ in_order edge (s ∷ history) x (filter (is_on k) xs)
        ∙ ap (λ (ss : List Sent). ss ++ sent_of edge (s ∷ history) x ∷ []) earlier
        ∙ ap (λ (h : List ProxyStep). sent_on edge history k xs
        ++ record { edge = edge; head = x.pulled.head; moment = now h; pieces = x.pulled.pieces; is_whole = x.pulled.is_ended } ∷ [])
        (first_before x.sent_at s history (all.0 n at))
        ∙ sym (in_order edge history x (filter (is_on k) xs))
        ∙ sym (ap (λ (ys : List Exchange). map (sent_of edge history) (reverse ys)) (takes k x xs here))

    by_server : sent_on edge (s ∷ history) k xs ≡ sent_on edge history k xs → (o : Option ℕ) → x.server ≡ o
        → sent_on edge (s ∷ history) k (x ∷ xs) ≡ sent_on edge history k (x ∷ xs)
    by_server earlier None at = passed_by earlier (off k x at)
    by_server earlier (Some n) at = by_number earlier n at (eqb n k) refl

pub on_later : (edge : Edge) (s : ProxyStep) (history : List ProxyStep) (xs : List Exchange) (links : List Link) → AllByRecursion (IsSentBy (length history)) xs
    → AreOn edge history xs links → AreOn edge (s ∷ history) xs links
on_later edge s history xs links all on = λ k. sent_later edge s history k xs all ∙ on k

-- ---- a connection does something, or there is a new one

pub on_still : (edge : Edge) (history : List ProxyStep) (xs : List Exchange) (l : Link) (links : List Link) (new : List Happened) → AreOn edge history xs (l ∷ links)
    → AreOn edge history xs (record { happened = new; sent = l.sent } ∷ links)
on_still edge history xs l links new on = λ k. on k ∙ by_test k (eqb k (length links))
  where
    by_test : (k : ℕ) (t : Bool) → reverse (cond t l (link_at k links)).sent
        ≡ reverse (cond t (record { happened = new; sent = l.sent }) (link_at k links)).sent
    by_test k true = refl
    by_test k false = refl

pub on_new : (edge : Edge) (history : List ProxyStep) (xs : List Exchange) (links : List Link) → AreOn edge history xs links
    → AreOn edge history xs (no_link ∷ links)
on_new edge history xs links on = λ k. on k ∙ ap (λ (l : Link). reverse l.sent) (by_test k (eqb k (length links)) refl)
  where
    by_test : (k : ℕ) (t : Bool) → eqb k (length links) ≡ t → link_at k links ≡ cond t no_link (link_at k links)
    by_test k true is = let same = eqb-true k (length links) is in link_behind links k (omega (arith, same))
    by_test k false is = refl

-- ---- the newest request

-- it is handed out
pub same_begun : (history : List ProxyStep) (count : ℕ) (rs : List Request) (xs : List Exchange) (p : Pulled) → AreSame history count rs xs
    → AreSame history count (record { pulled = p; sent_at = None; was_refused = false } ∷ rs)
    (record { pulled = p; server = None; sent_at = 0; was_refused = false } ∷ xs)
same_begun history count rs xs p same = (record { pulled = refl; refused = refl; placed = inl (refl, refl) }, same)

pub on_begun : (edge : Edge) (history : List ProxyStep) (xs : List Exchange) (links : List Link) (p : Pulled) → AreOn edge history xs links
    → AreOn edge history (record { pulled = p; server = None; sent_at = 0; was_refused = false } ∷ xs) links
on_begun edge history xs links p on = on

-- it is sent on, on the newest connection, by the steps so far
abbrev pub sent_now : ℕ → List ProxyStep → Exchange → Exchange
sent_now n history x = record x { server = Some n; sent_at = length history }

pub same_sent : (history : List ProxyStep) (count n moment : ℕ) (r : Request) (rs : List Request) (x : Exchange) (xs : List Exchange) → n < count
    → moment ≡ now history → AreSame history count (r ∷ rs) (x ∷ xs) → AreSame history count (record r { sent_at = Some moment } ∷ rs) (sent_now n history x ∷ xs)
same_sent history count n moment r rs x xs low dated same = (
  record {
    pulled = same.0.pulled;
    refused = same.0.refused;
    placed = inr (record {
      number = n;
      server = refl;
      there = low;
      by = omega arith;
      at = ap Some (dated ∙ ap now (sym (first_all history)));
    });
  },
  same.1,
)

pub on_sent : (edge : Edge) (history : List ProxyStep) (moment : ℕ) (r : Request) (x : Exchange) (xs : List Exchange) (l : Link) (links : List Link) (new : List Happened)
    → x.server ≡ None → x.pulled ≡ r.pulled → moment ≡ now history → AreOn edge history (x ∷ xs) (l ∷ links)
    → AreOn edge history (sent_now (length links) history x ∷ xs)
    (record { happened = new; sent = happened.sent_of edge r.pulled moment ∷ l.sent } ∷ links)
on_sent edge history moment r x xs l links new none pulled dated on = λ k. by_test k (eqb k (length links)) refl
  where
    others : (k : ℕ) → sent_on edge history k xs ≡ reverse (link_at k (l ∷ links)).sent
    others k = sym (ap (λ (ys : List Exchange). map (sent_of edge history) (reverse ys)) (leaves k x xs (off k x none))) ∙ on k

    is_it : sent_of edge history (sent_now (length links) history x) ≡ happened.sent_of edge r.pulled moment
    is_it =
        ap (λ (h : List ProxyStep). record { edge = edge; head = x.pulled.head; moment = now h; pieces = x.pulled.pieces; is_whole = x.pulled.is_ended }) (first_all history)
        ∙ ap (λ (m : ℕ). record { edge = edge; head = x.pulled.head; moment = m; pieces = x.pulled.pieces; is_whole = x.pulled.is_ended }) (sym dated)
        ∙ ap (λ (p : Pulled). happened.sent_of edge p moment) pulled

    by_test : (k : ℕ) (t : Bool) → eqb k (length links) ≡ t → sent_on edge history k (sent_now (length links) history x ∷ xs)
        ≡ reverse (cond (eqb k (length links)) (record { happened = new; sent = happened.sent_of edge r.pulled moment ∷ l.sent }) (link_at k links)).sent
    by_test k true is =
        let same = eqb-true k (length links) is in
        let here : is_on k (sent_now (length links) history x) ≡ true = eq-eqb (length links) k (sym same) in
        ap (λ (ys : List Exchange). map (sent_of edge history) (reverse ys)) (takes k (sent_now (length links) history x) xs here)
        ∙ in_order edge history (sent_now (length links) history x) (filter (is_on k) xs)
        ∙ ap (λ (ss : List Sent). ss ++ sent_of edge history (sent_now (length links) history x) ∷ []) (others k)
        ∙ ap (λ (t : Bool). reverse (cond t l (link_at k links)).sent ++ sent_of edge history (sent_now (length links) history x) ∷ []) is
        ∙ ap (λ (s : Sent). reverse l.sent ++ s ∷ []) is_it
        ∙ sym (reverse-append (happened.sent_of edge r.pulled moment ∷ []) l.sent)
        ∙ sym (ap (λ (t : Bool). reverse (cond t (record { happened = new; sent = happened.sent_of edge r.pulled moment ∷ l.sent }) (link_at k links)).sent) is)
    by_test k false is =
        let other = eqb-false k (length links) is in
        let away : is_on k (sent_now (length links) history x) ≡ false = ne_eqb (length links) k (λ e. other (sym e)) in
        ap (λ (ys : List Exchange). map (sent_of edge history) (reverse ys)) (leaves k (sent_now (length links) history x) xs away)
        ∙ others k
        ∙ ap (λ (t : Bool). reverse (cond t l (link_at k links)).sent) is
        ∙ sym (ap (λ (t : Bool). reverse (cond t (record { happened = new; sent = happened.sent_of edge r.pulled moment ∷ l.sent }) (link_at k links)).sent) is)

-- more of it was taken, while it is the newest on the newest connection
pub same_taken : (history : List ProxyStep) (count : ℕ) (r : Request) (rs : List Request) (x : Exchange) (xs : List Exchange) (p : Pulled)
    → AreSame history count (r ∷ rs) (x ∷ xs)
    → AreSame history count (record { pulled = p; sent_at = r.sent_at; was_refused = r.was_refused } ∷ rs) (record x { pulled = p } ∷ xs)
same_taken history count r rs x xs p same = (
  record { pulled = refl; refused = same.0.refused; placed = by_place same.0.placed },
  same.1,
)
  where
    by_place : ((x.server ≡ None) × (r.sent_at ≡ None)) ⊎ IsPlaced history count r x → ((x.server ≡ None) × (r.sent_at ≡ None))
        ⊎ IsPlaced history count (record { pulled = p; sent_at = r.sent_at; was_refused = r.was_refused }) (record x { pulled = p })
    by_place (inl none) = inl none
    by_place (inr q) = inr (record { number = q.number; server = q.server; there = q.there; by = q.by; at = q.at })

pub on_taken : (edge : Edge) (history : List ProxyStep) (moment : ℕ) (r : Request) (x : Exchange) (xs : List Exchange) (p : Pulled) (l : Link) (links : List Link)
    (new : List Happened) (before : List Sent) → x.server ≡ Some (length links) → x.pulled ≡ r.pulled → now (first_of x.sent_at history) ≡ moment
    → l.sent ≡ happened.sent_of edge r.pulled moment ∷ before → AreOn edge history (x ∷ xs) (l ∷ links)
    → AreOn edge history (record x { pulled = p } ∷ xs) (record { happened = new; sent = happened.sent_of edge p moment ∷ before } ∷ links)
on_taken edge history moment r x xs p l links new before at pulled dated sent on = λ k. by_test k (eqb k (length links)) refl
  where
    was_it : sent_of edge history x ≡ happened.sent_of edge r.pulled moment
    was_it =
        ap (λ (m : ℕ). record { edge = edge; head = x.pulled.head; moment = m; pieces = x.pulled.pieces; is_whole = x.pulled.is_ended }) dated
        ∙ ap (λ (p : Pulled). happened.sent_of edge p moment) pulled

    is_it : sent_of edge history (record x { pulled = p }) ≡ happened.sent_of edge p moment
    is_it = ap (λ (m : ℕ). record { edge = edge; head = p.head; moment = m; pieces = p.pieces; is_whole = p.is_ended }) dated

    by_test : (k : ℕ) (t : Bool) → eqb k (length links) ≡ t → sent_on edge history k (record x { pulled = p } ∷ xs)
        ≡ reverse (cond (eqb k (length links)) (record { happened = new; sent = happened.sent_of edge p moment ∷ before }) (link_at k links)).sent
    by_test k true is =
        let same = eqb-true k (length links) is in
        let here : is_on k x ≡ true = on_number k (length links) x at ∙ eq-eqb (length links) k (sym same) in
        let earlier : map (sent_of edge history) (reverse (filter (is_on k) xs)) ++ happened.sent_of edge r.pulled moment ∷ []
        ≡ reverse before ++ happened.sent_of edge r.pulled moment ∷ [] =
        ap (λ (s : Sent). map (sent_of edge history) (reverse (filter (is_on k) xs)) ++ s ∷ []) (sym was_it)
        ∙ sym (in_order edge history x (filter (is_on k) xs))
        ∙ sym (ap (λ (ys : List Exchange). map (sent_of edge history) (reverse ys)) (takes k x xs here))
        ∙ on k
        ∙ ap (λ (t : Bool). reverse (cond t l (link_at k links)).sent) is
        ∙ ap (λ (ss : List Sent). reverse ss) sent
        ∙ reverse-append (happened.sent_of edge r.pulled moment ∷ []) before in
        ap (λ (ys : List Exchange). map (sent_of edge history) (reverse ys)) (takes k (record x { pulled = p }) xs here)
        ∙ in_order edge history (record x { pulled = p }) (filter (is_on k) xs)
        ∙ ap (λ (ss : List Sent). ss ++ sent_of edge history (record x { pulled = p }) ∷ [])
        (append_cancel_right (map (sent_of edge history) (reverse (filter (is_on k) xs))) (reverse before) (happened.sent_of edge r.pulled moment ∷ []) earlier)
        ∙ ap (λ (s : Sent). reverse before ++ s ∷ []) is_it
        ∙ sym (reverse-append (happened.sent_of edge p moment ∷ []) before)
        ∙ sym (ap (λ (t : Bool). reverse (cond t (record { happened = new; sent = happened.sent_of edge p moment ∷ before }) (link_at k links)).sent) is)
    by_test k false is =
        let other = eqb-false k (length links) is in
        let away : is_on k x ≡ false = on_number k (length links) x at ∙ ne_eqb (length links) k (λ e. other (sym e)) in
        ap (λ (ys : List Exchange). map (sent_of edge history) (reverse ys)) (leaves k (record x { pulled = p }) xs away)
        ∙ sym (ap (λ (ys : List Exchange). map (sent_of edge history) (reverse ys)) (leaves k x xs away))
        ∙ on k
        ∙ ap (λ (t : Bool). reverse (cond t l (link_at k links)).sent) is
        ∙ sym (ap (λ (t : Bool). reverse (cond t (record { happened = new; sent = happened.sent_of edge p moment ∷ before }) (link_at k links)).sent) is)

-- no server connection is to be had for it
pub same_refused : (history : List ProxyStep) (count : ℕ) (r : Request) (rs : List Request) (x : Exchange) (xs : List Exchange)
    → AreSame history count (r ∷ rs) (x ∷ xs) → AreSame history count (record r { was_refused = true } ∷ rs) (record x { was_refused = true } ∷ xs)
same_refused history count r rs x xs same = (
  record { pulled = same.0.pulled; refused = refl; placed = by_place same.0.placed },
  same.1,
)
  where
    by_place : ((x.server ≡ None) × (r.sent_at ≡ None)) ⊎ IsPlaced history count r x → ((x.server ≡ None) × (r.sent_at ≡ None))
        ⊎ IsPlaced history count (record r { was_refused = true }) (record x { was_refused = true })
    by_place (inl none) = inl none
    by_place (inr q) = inr (record { number = q.number; server = q.server; there = q.there; by = q.by; at = q.at })

pub on_refused : (edge : Edge) (history : List ProxyStep) (x : Exchange) (xs : List Exchange) (links : List Link) → x.server ≡ None
    → AreOn edge history (x ∷ xs) links → AreOn edge history (record x { was_refused = true } ∷ xs) links
on_refused edge history x xs links none on = λ k.
    ap (λ (ys : List Exchange). map (sent_of edge history) (reverse ys)) (leaves k (record x { was_refused = true }) xs (off k (record x { was_refused = true }) none))
    ∙ sym (ap (λ (ys : List Exchange). map (sent_of edge history) (reverse ys)) (leaves k x xs (off k x none)))
    ∙ on k
