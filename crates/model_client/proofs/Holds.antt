-- What holds of a client all along, where all bytes that will come are known: what it handed out, and what it keeps.
use Rattle.std.proofs.Common.{◌≡◌, ℕ, ◌<◌, ◌≤◌, Bool, true, false, List, [], ◌∷◌, ◌++◌, length, drop, map, reverse, Option, Some, None, sym, ap, ◌∙◌, subst, append-nil, append_assoc}
use Rattle.std.specs.List.{AllByRecursion}
use Rattle.std.proofs.lemmas.Grind.{reverse_onto}
use Rattle.model_h1.specs.Parse.{Body}
use Rattle.model_h1.specs.Handed.{Item, item_bytes, item_end, item_fault, trailer_items, Begins, last_items, body_bytes, AreItemsOf}
use Rattle.model_h1.proofs.HandedItems.{joined}
use Rattle.model_h1.specs.Event.{corrupted, incomplete}
use Rattle.model_h1.specs.Parse.{trailer_header}
use Rattle.model_client.specs.AnswerParse.{AnswerMessage, IsAnswerAt, is_interim, left_waiting, AreAnswersIn}
use Rattle.model_client.specs.ClientEvent.{ClientEnd}
use Rattle.model_client.specs.ClientKept.{Waiting, ReadingBody, ClientKept, is_free_of}
use Rattle.model_client.specs.ReadOut.{ReadAnswer, ReadOut}
use Rattle.model_client.specs.Parsed.{IsPrefixFrom}
use Rattle.model_client.proofs.Told.{HowStops, stops_before, may_go_on, breaks_off, is_cut_off, Told, told, IsSound, IsMore, behind_of}
use Rattle.model_client.proofs.Bodies.{Stands, StopsSo}
use Rattle.model_client.proofs.Chain.{received, Leads, prefix_of, no_tail, one_tail}

-- the methods of those who wait
abbrev pub waiting_methods : List Waiting → List (List ℕ)
waiting_methods ws = map (λ (w : Waiting). w.method) ws

-- These items of a body were handed out, and this is what is left to tell of it.
pub record IsGiving (bytes : List ℕ) (body : Body) (items : List Item) (t : Told) : Type 0 where
  pub pieces : List (List ℕ)
  pub last : List Item
  pub are : items ≡ map item_bytes pieces ++ last
  pub some : AllByRecursion (λ (piece : List ℕ). 0 < length piece) pieces
  pub all : body_bytes bytes body ≡ joined pieces ++ t.body
  pub over : 0 < length last → t.body ≡ []
  pub stops : StopsSo bytes body last t.stop

-- what follows the bytes of the body
stop_follows : (bytes : List ℕ) (body : Body) (last : List Item) (stop : HowStops) → StopsSo bytes body last stop → Begins last (last_items body)
stop_follows bytes body last (stops_before text behind) x = (trailer_items (map trailer_header x.0) ++ item_end ∷ [], x.3)
stop_follows bytes body last may_go_on x = ([], x.1 ∙ sym (append-nil []) ∙ ap (λ (l : List Item). l ++ []) (sym x.0))
stop_follows bytes body last breaks_off x = (item_fault corrupted ∷ [], x)
stop_follows bytes body last is_cut_off x = (item_fault incomplete ∷ [], x)

-- all bytes were handed out
pub given_all : (bytes : List ℕ) (body : Body) (items : List Item) (t : Told) (x : IsGiving bytes body items t) → t.body ≡ [] → joined x.pieces ≡ body_bytes bytes body
given_all bytes body items t x none = sym (x.all ∙ ap (λ (l : List ℕ). joined x.pieces ++ l) none ∙ append-nil (joined x.pieces))

-- so they are the body's
pub giving_items : (bytes : List ℕ) (body : Body) (items : List Item) (t : Told) → IsGiving bytes body items t → AreItemsOf bytes body items
giving_items bytes body items t x = record {
  pieces = x.pieces;
  last = x.last;
  are = x.are;
  some = x.some;
  begins = (t.body, x.all);
  behind = λ has. given_all bytes body items t x (x.over has);
  follow = stop_follows bytes body x.last t.stop x.stops;
}

-- with one more of what follows all bytes
pub last_item : (bytes : List ℕ) (body : Body) (items : List Item) (t : Told) (x : IsGiving bytes body items t) (item : Item) → t.body ≡ []
    → Begins (x.last ++ item ∷ []) (last_items body) → AreItemsOf bytes body (items ++ item ∷ [])
last_item bytes body items t x item none follows = record {
  pieces = x.pieces;
  last = x.last ++ item ∷ [];
  are = ap (λ (l : List Item). l ++ item ∷ []) x.are ∙ append_assoc (map item_bytes x.pieces) x.last (item ∷ []);
  some = x.some;
  begins = (t.body, x.all);
  behind = λ has. given_all bytes body items t x none;
  follow = follows;
}

-- what is left of a body that is read, and of one that is dropped
abbrev pub IsLeft : Bool → List ℕ → Body → List Item → Told → Type 0
IsLeft false bytes body items t = IsGiving bytes body items t
IsLeft true bytes body items t = AreItemsOf bytes body items × ((behind : List ℕ) → behind_of t.stop ≡ Some behind → Stands bytes body behind)

pub left_items : (dropped : Bool) (bytes : List ℕ) (body : Body) (items : List Item) (t : Told) → IsLeft dropped bytes body items t → AreItemsOf bytes body items
left_items false bytes body items t x = giving_items bytes body items t x
left_items true bytes body items t x = x.0

-- a body that is read may be dropped
pub giving_dropped : (dropped : Bool) (bytes : List ℕ) (body : Body) (items : List Item) (t : Told) → IsLeft dropped bytes body items t → IsLeft true bytes body items t
giving_dropped true bytes body items t x = x
giving_dropped false bytes body items t x = (giving_items bytes body items t x, by_stop t.stop x.stops)
  where
    by_stop : (stop : HowStops) → StopsSo bytes body x.last stop → (behind : List ℕ) → behind_of stop ≡ Some behind → Stands bytes body behind
    by_stop (stops_before text there) stops behind is = let same : there ≡ behind = cc in subst (Stands bytes body) same stops.4
    by_stop may_go_on stops behind is = absurd (cc is)
    by_stop breaks_off stops behind is = absurd (cc is)
    by_stop is_cut_off stops behind is = absurd (cc is)

-- ---- all that is kept

-- All bytes that come are these; then the input has ended, or not. So many may be held, and these are the methods of all
-- requests.
module _ (bytes : List ℕ) (e : Bool) (size : ℕ) (methods : List (List ℕ)) where
  -- nothing is left of the last answer, and this text follows
  pub record IsBetween (outs : List ReadAnswer) (text : List ℕ) (waits : List (List ℕ)) : Type 0 where
    pub place : ℕ
    pub within : place ≤ length bytes
    pub leads : Leads (received bytes e size) methods outs place waits
    pub text_is : drop place bytes ≡ text

  -- the newest answer's body is read or dropped, and this text follows
  pub record IsInside (h : ReadAnswer) (before : List ReadAnswer) (text : List ℕ) (waits : List (List ℕ)) (body : ReadingBody) : Type 0 where
    pub start : ℕ
    pub method : List ℕ
    pub leads : Leads (received bytes e size) methods before start (method ∷ waits)
    pub message : AnswerMessage
    pub at : IsAnswerAt (received bytes e size) start method message
    pub final : waits ≡ left_waiting is_interim message.reading method waits
    pub reading : h.reading ≡ message.reading
    pub sound : IsSound body.rest
    pub left : IsLeft body.was_dropped bytes message.body h.items (told e body.rest text)

  abbrev pub IsBusy : List ReadAnswer → List ℕ → List (List ℕ) → ReadingBody → Type 0
  IsBusy [] text waits body = ⊥
  IsBusy (h ∷ before) text waits body = IsInside h before text waits body

  abbrev pub IsBody : Bool → List ReadAnswer → List ℕ → List (List ℕ) → ReadingBody → Type 0
  IsBody true outs text waits body = IsBetween outs text waits
  IsBody false outs text waits body = IsBusy outs text waits body

  abbrev pub IsOpen : List ReadAnswer → List ℕ → List (List ℕ) → Option ReadingBody → Type 0
  IsOpen outs text waits None = IsBetween outs text waits
  IsOpen outs text waits (Some body) = IsBody body.is_done outs text waits body

  -- what was handed out is the beginning of the answers, however it goes on
  abbrev pub IsFinal : List ReadAnswer → Type 0
  IsFinal outs = (ms : List AnswerMessage) → AreAnswersIn is_interim (received bytes e size) methods ms → IsPrefixFrom size bytes 0 (reverse outs) ms

  -- after a fault nothing more is taken
  abbrev pub IsState : Option ClientEnd → List ℕ → List ReadAnswer → List ℕ → List (List ℕ) → Option ReadingBody → Type 0
  IsState None more outs text waits reading = IsOpen outs text waits reading
  IsState (Some end) more outs text waits reading = more ≡ [] → IsFinal outs

  abbrev pub Holds : ReadOut → ClientKept → List ℕ → List (List ℕ) → Type 0
  Holds out k more extra =
      IsMore k.has_ended more e
      → (out.stray ≡ []) × IsState k.failed more out.answers (k.unread ++ more) (waiting_methods k.waiting ++ extra) k.reading

  -- ---- the beginning

  -- one answer behind those that have ended
  pub newest_final : (h : ReadAnswer) (before : List ReadAnswer) (start : ℕ) (method : List ℕ) (waits : List (List ℕ)) (m : AnswerMessage)
      → Leads (received bytes e size) methods before start (method ∷ waits) → IsAnswerAt (received bytes e size) start method m
      → h.reading ≡ m.reading → AreItemsOf bytes m.body h.items → IsFinal (h ∷ before)
  newest_final h before start method waits m leads at reading items ms are =
      subst (λ (l : List ReadAnswer). IsPrefixFrom size bytes 0 l ms) (sym (reverse_onto before h []))
      (prefix_of (received bytes e size) size methods before start (method ∷ waits) (h ∷ []) ms leads
      (one_tail (received bytes e size) size start method waits h m at (record { reading = reading; items = items })) are)

  between_final : (outs : List ReadAnswer) (text : List ℕ) (waits : List (List ℕ)) → IsBetween outs text waits → IsFinal outs
  between_final outs text waits x ms are =
      subst (λ (l : List ReadAnswer). IsPrefixFrom size bytes 0 l ms) (append-nil (reverse outs))
      (prefix_of (received bytes e size) size methods outs x.place waits [] ms x.leads (no_tail (received bytes e size) size x.place waits) are)

  busy_final : (outs : List ReadAnswer) (text : List ℕ) (waits : List (List ℕ)) (body : ReadingBody) → IsBusy outs text waits body → IsFinal outs
  busy_final [] text waits body x = absurd x
  busy_final (h ∷ before) text waits body x =
      newest_final h before x.start x.method waits x.message x.leads x.at x.reading
      (left_items body.was_dropped bytes x.message.body h.items (told e body.rest text) x.left)

  body_final : (done : Bool) (outs : List ReadAnswer) (text : List ℕ) (waits : List (List ℕ)) (body : ReadingBody) → IsBody done outs text waits body → IsFinal outs
  body_final true outs text waits body x = between_final outs text waits x
  body_final false outs text waits body x = busy_final outs text waits body x

  pub open_final : (outs : List ReadAnswer) (text : List ℕ) (waits : List (List ℕ)) (reading : Option ReadingBody) → IsOpen outs text waits reading → IsFinal outs
  open_final outs text waits None x = between_final outs text waits x
  open_final outs text waits (Some body) x = body_final body.is_done outs text waits body x

  -- whatever the state
  pub state_final : (f : Option ClientEnd) (more : List ℕ) (outs : List ReadAnswer) (text : List ℕ) (waits : List (List ℕ)) (reading : Option ReadingBody) → more ≡ []
      → IsState f more outs text waits reading → IsFinal outs
  state_final None more outs text waits reading none x = open_final outs text waits reading x
  state_final (Some end) more outs text waits reading none x = x none

  -- ---- between two answers

  pub free_between : (outs : List ReadAnswer) (text : List ℕ) (waits : List (List ℕ)) (reading : Option ReadingBody) → is_free_of reading ≡ true
      → IsOpen outs text waits reading → IsBetween outs text waits
  free_between outs text waits None free x = x
  free_between outs text waits (Some body) free x = subst (λ (t : Bool). IsBody t outs text waits body) free x

  pub between_open : (outs : List ReadAnswer) (text : List ℕ) (waits : List (List ℕ)) (reading : Option ReadingBody) → is_free_of reading ≡ true
      → IsBetween outs text waits → IsOpen outs text waits reading
  between_open outs text waits None free x = x
  between_open outs text waits (Some body) free x = subst (λ (t : Bool). IsBody t outs text waits body) (sym free) x

  -- a body that has ended leads to what follows it
  pub body_over : (h : ReadAnswer) (before : List ReadAnswer) (text behind : List ℕ) (waits : List (List ℕ)) (body : ReadingBody) (items : List Item)
      → (x : IsInside h before text waits body) → AreItemsOf bytes x.message.body items → Stands bytes x.message.body behind
      → IsBetween (record h { items = items } ∷ before) behind waits
  body_over h before text behind waits body items x are stands = record {
    place = stands.0;
    within = stands.2;
    leads = (
      x.start,
      x.method,
      waits,
      x.leads,
      record {
        message = x.message;
        at = x.at;
        is = record { reading = x.reading; items = are };
        next = stands.1;
        left_is = x.final;
      },
    );
    text_is = stands.3;
  }
