-- What holds of a client all along: what it handed out is what was sent, and what it keeps is what is left of that.
use Rattle.std.proofs.Common.{◌≡◌, ◌⊎◌, ℕ, ◌<◌, Bool, true, false, ◌&&◌, ◌||◌, not, List, [], ◌∷◌, ◌++◌, length, map, reverse, Option, Some, None, is_some, refl, sym, ap, ap₂, ◌∙◌, subst, subst₂, inl, inr, append_assoc}
use Rattle.std.specs.Prelude.{⊤, if◌then◌else◌}
use Rattle.std.specs.List.{AllByRecursion}
use Rattle.std.specs.Option.{option_or}
use Rattle.std.proofs.lemmas.Bool.{false≢true}
use Rattle.model_h1.specs.Event.{incomplete}
use Rattle.model_h1.specs.Handed.{Item, item_bytes, item_end, item_fault}
use Rattle.model_state.specs.Kept.{Rest, no_rest, raw_rest, fixed_rest, chunks_rest, frames_rest, is_nothing}
use Rattle.model_state.specs.Body.{Passed, pass_rest}
use Rattle.model_client.specs.AnswerParse.{is_interim}
use Rattle.model_client.specs.RequestText.{joined}
use Rattle.model_client.specs.ClientEvent.{ClientEnd, broken_answer, failed_request}
use Rattle.model_client.specs.ClientKept.{Waiting, ReadingBody, ClientKept, is_free_of, is_free}
use Rattle.model_client.specs.ClientStep.{is_broken, passed_body, passing, body_at_end}
use Rattle.model_ends.specs.SentAnswer.{SentAnswer, AreSent, AreHeld, sent_text, AreTo}
use Rattle.model_ends.specs.HandedBody.{IsStop}
use Rattle.model_client.specs.ReadOut.{ReadAnswer}
use Rattle.model_ends.specs.ReadOut.{IsReadOut}
use Rattle.model_ends.proofs.Rests.{RestSays, Passes, all_passed, some_left, pass_goes_on, rest_stays}

-- the methods of requests
abbrev pub methods_of : List Waiting → List (List ℕ)
methods_of ws = map (λ (w : Waiting). w.method) ws

-- each answer that was handed out is the one that was sent, the newest first
abbrev pub AreSo : Bool → List ReadAnswer → List SentAnswer → Type 0
AreSo ended [] [] = ⊤
AreSo ended (a ∷ outs) (s ∷ ss) = IsReadOut ended a s × AreSo ended outs ss
AreSo ended outs ss = ⊥

-- nothing is left of the last answer
pub record IsFree (k : ClientKept) (future : List ℕ) (asked : List Waiting) (rest : List SentAnswer) : Type 0 where
  pub free : is_free k ≡ true
  pub text : k.unread ++ future ≡ sent_text rest
  pub to : AreTo is_interim (methods_of (k.waiting ++ asked)) rest

-- what was handed out of its body so far, unless the rest is dropped
abbrev pub IsGiving : Bool → List Item → List ℕ → List ℕ → Type 0
IsGiving true items left bytes = ⊤
IsGiving false items left bytes =
    (pieces : List (List ℕ)) × (items ≡ map item_bytes pieces) × AllByRecursion (λ (piece : List ℕ). 0 < length piece) pieces × (joined pieces ++ left ≡ bytes)

-- the last answer is being read
pub record IsBusyWith (k : ClientKept) (future : List ℕ) (asked : List Waiting) (rest : List SentAnswer) (a : ReadAnswer) (s : SentAnswer) : Type 0 where
  pub body : ReadingBody
  pub is : k.reading ≡ Some body
  pub goes_on : body.is_done ≡ false
  pub left : List ℕ
  pub says : RestSays body.rest (k.unread ++ future) left s.is_whole (sent_text rest)
  pub giving : IsGiving body.was_dropped a.items left s.bytes
  pub to : AreTo is_interim (methods_of (k.waiting ++ asked)) rest

abbrev pub IsBusy : ClientKept → List ℕ → List Waiting → List SentAnswer → List ReadAnswer → List SentAnswer → Type 0
IsBusy k future asked rest (a ∷ outs) (s ∷ ss) = IsBusyWith k future asked rest a s
IsBusy k future asked rest outs ss = ⊥

-- A request's body failed, or the input has ended inside an answer's body; and no other fault is found.
abbrev pub IsFaulty : Option ClientEnd → Bool → Type 0
IsFaulty failed ended = (failed ≡ Some failed_request) ⊎ ((failed ≡ Some broken_answer) × (ended ≡ true))

pub faulty_some : (f : Option ClientEnd) (t : Bool) → IsFaulty f t → is_some f ≡ true
faulty_some f t x = elim x [ inl e ↦ ap is_some e | inr (e, _) ↦ ap is_some e ]

faulty_stays : (f e : Option ClientEnd) (t : Bool) → IsFaulty f t → IsFaulty (option_or f e) t
faulty_stays (Some f) e t x = x
faulty_stays None e t x = absurd (false≢true (faulty_some None t x))

-- a fault was told, or nothing is wrong, and then all that is left is what was sent
abbrev pub IsIn : ClientKept → List ℕ → List Waiting → List SentAnswer → List ReadAnswer → List SentAnswer → Type 0
IsIn k future asked rest outs ss =
    IsFaulty k.failed k.has_ended ⊎ ((k.failed ≡ None) × (IsFree k future asked rest ⊎ IsBusy k future asked rest outs ss))

module _ (size : ℕ) (ss : List SentAnswer) where
  -- Of the answers that were sent these are done, the newest first, and those are to come: as the bytes that are unread and
  -- those that follow, and to the requests that wait and those that follow.
  pub record Holds (stray : List Item) (outs : List ReadAnswer) (done rest : List SentAnswer) (k : ClientKept) (future : List ℕ) (asked : List Waiting) : Type 0 where
    pub none : stray ≡ []
    pub are : ss ≡ reverse done ++ rest
    pub so : AreSo k.has_ended outs done
    pub sent : AreSent rest
    pub held : AreHeld (Some size) rest
    pub state : IsIn k future asked rest outs done

  -- ---- what changes nothing of it

  -- the same, but for requests that wait now, and perhaps for a fault
  pub record IsLike (k m : ClientKept) (ws : List Waiting) : Type 0 where
    pub unread : m.unread ≡ k.unread
    pub waiting : m.waiting ≡ k.waiting ++ ws
    pub reading : m.reading ≡ k.reading
    pub ended : m.has_ended ≡ k.has_ended
    pub failed : (m.failed ≡ Some failed_request) ⊎ (m.failed ≡ k.failed)

  module _ (k m : ClientKept) (ws : List Waiting) (like : IsLike k m ws) (future : List ℕ) (asked : List Waiting) (rest : List SentAnswer) where
    waits : k.waiting ++ (ws ++ asked) ≡ m.waiting ++ asked
    waits = sym (append_assoc k.waiting ws asked) ∙ ap (λ (l : List Waiting). l ++ asked) (sym like.waiting)

    like_to : AreTo is_interim (methods_of (k.waiting ++ (ws ++ asked))) rest → AreTo is_interim (methods_of (m.waiting ++ asked)) rest
    like_to to = subst (λ (l : List Waiting). AreTo is_interim (methods_of l) rest) waits to

    like_free : IsFree k future (ws ++ asked) rest → IsFree m future asked rest
    like_free f = record {
      free = ap is_free_of like.reading ∙ f.free;
      text = ap (λ (l : List ℕ). l ++ future) like.unread ∙ f.text;
      to = like_to f.to;
    }

    like_busy : (outs : List ReadAnswer) (ds : List SentAnswer) → IsBusy k future (ws ++ asked) rest outs ds → IsBusy m future asked rest outs ds
    like_busy [] ds b = absurd b
    like_busy (a ∷ outs) [] b = absurd b
    like_busy (a ∷ outs) (s ∷ ds) b = record {
      body = b.body;
      is = like.reading ∙ b.is;
      goes_on = b.goes_on;
      left = b.left;
      says = subst (λ (l : List ℕ). RestSays b.body.rest (l ++ future) b.left s.is_whole (sent_text rest)) (sym like.unread) b.says;
      giving = b.giving;
      to = like_to b.to;
    }

    like_state : (outs : List ReadAnswer) (ds : List SentAnswer) → IsIn k future (ws ++ asked) rest outs ds → IsIn m future asked rest outs ds
    like_state outs ds state = elim like.failed [
      | inl failed ↦ inl (inl failed)
      | inr same ↦ elim state [
        | inl failed ↦ inl (subst₂ (λ (f : Option ClientEnd) (t : Bool). IsFaulty f t) (sym same) (sym like.ended) failed)
        | inr (fine, x) ↦ elim x [
          | inl f ↦ inr (same ∙ fine, inl (like_free f))
          | inr b ↦ inr (same ∙ fine, inr (like_busy outs ds b))
        ]
      ]
    ]

  pub like_holds : (stray : List Item) (outs : List ReadAnswer) (done rest : List SentAnswer) (k m : ClientKept) (ws : List Waiting) (future : List ℕ)
      (asked : List Waiting) → IsLike k m ws → Holds stray outs done rest k future (ws ++ asked) → Holds stray outs done rest m future asked
  like_holds stray outs done rest k m ws future asked like h = record {
    none = h.none;
    are = h.are;
    so = subst (λ (t : Bool). AreSo t outs done) (sym like.ended) h.so;
    sent = h.sent;
    held = h.held;
    state = like_state k m ws like future asked rest outs done h.state;
  }

  -- ---- bytes that come

  more_text : (unread more future : List ℕ) → (unread ++ more) ++ future ≡ unread ++ (more ++ future)
  more_text unread more future = append_assoc unread more future

  more_busy : (outs : List ReadAnswer) (ds rest : List SentAnswer) (k : ClientKept) (more future : List ℕ) (asked : List Waiting)
      → IsBusy k (more ++ future) asked rest outs ds → IsBusy (record k { unread = k.unread ++ more }) future asked rest outs ds
  more_busy [] ds rest k more future asked b = absurd b
  more_busy (a ∷ outs) [] rest k more future asked b = absurd b
  more_busy (a ∷ outs) (s ∷ ds) rest k more future asked b = record {
    body = b.body;
    is = b.is;
    goes_on = b.goes_on;
    left = b.left;
    says = subst (λ (l : List ℕ). RestSays b.body.rest l b.left s.is_whole (sent_text rest)) (sym (more_text k.unread more future)) b.says;
    giving = b.giving;
    to = b.to;
  }

  pub more_holds : (stray : List Item) (outs : List ReadAnswer) (done rest : List SentAnswer) (k : ClientKept) (more future : List ℕ) (asked : List Waiting)
      → Holds stray outs done rest k (more ++ future) asked → Holds stray outs done rest (record k { unread = k.unread ++ more }) future asked
  more_holds stray outs done rest k more future asked h = record {
    none = h.none;
    are = h.are;
    so = h.so;
    sent = h.sent;
    held = h.held;
    state = elim h.state [
      | inl failed ↦ inl failed
      | inr (fine, x) ↦ elim x [
        | inl f ↦ inr (fine, inl (record { free = f.free; text = more_text k.unread more future ∙ f.text; to = f.to }))
        | inr b ↦ inr (fine, inr (more_busy outs done rest k more future asked b))
      ]
    ];
  }

  -- ---- passing what is dropped

  -- a body that is done isn't passed
  done_passes : (k : ClientKept) (reading : Option ReadingBody) → is_free_of reading ≡ true → passing reading k ≡ k
  done_passes k None free = refl
  done_passes k (Some body) free = by_test body.was_dropped body.is_done free
    where
      by_test : (dropped is_done : Bool) → is_done ≡ true → (if dropped && not is_done then passed_body k.has_ended body k (pass_rest k.has_ended body.rest k.unread) else k) ≡ k
      by_test true true free = refl
      by_test false true free = refl
      by_test dropped false free = absurd (false≢true free)

  -- nor one that isn't dropped
  kept_passes : (k : ClientKept) (body : ReadingBody) → body.was_dropped ≡ false → passing (Some body) k ≡ k
  kept_passes k body kept = ap (λ (t : Bool). if t && not body.is_done then passed_body k.has_ended body k (pass_rest k.has_ended body.rest k.unread) else k) kept

  -- one that is, is
  dropped_passes : (k : ClientKept) (body : ReadingBody) → body.was_dropped ≡ true → body.is_done ≡ false
      → passing (Some body) k ≡ passed_body k.has_ended body k (pass_rest k.has_ended body.rest k.unread)
  dropped_passes k body dropped going =
      ap₂ (λ (t d : Bool). if t && not d then passed_body k.has_ended body k (pass_rest k.has_ended body.rest k.unread) else k) dropped going

  nothing_unbroken : (rest : Rest) → is_nothing rest ≡ true → is_broken rest ≡ false
  nothing_unbroken no_rest e = refl
  nothing_unbroken raw_rest e = refl
  nothing_unbroken (fixed_rest n) e = refl
  nothing_unbroken (chunks_rest place section) e = absurd (false≢true e)
  nothing_unbroken (frames_rest under_way limit) e = refl

  pub failed_stays : (f : Option ClientEnd) (e : Option ClientEnd) → is_some f ≡ true → is_some (option_or f e) ≡ true
  failed_stays (Some f) e is = refl
  failed_stays None e is = absurd (false≢true is)

  -- what is kept after a body was passed
  passed_state : (outs : List ReadAnswer) (ds rest : List SentAnswer) (k : ClientKept) (future : List ℕ) (asked : List Waiting) (a : ReadAnswer) (s : SentAnswer)
      (body : ReadingBody) (p : Passed) → k.failed ≡ None → body.was_dropped ≡ true → AreTo is_interim (methods_of (k.waiting ++ asked)) rest
      → Passes future s.is_whole (sent_text rest) p → IsIn (passed_body k.has_ended body k p) future asked rest (a ∷ outs) (s ∷ ds)
  passed_state outs ds rest k future asked a s body p fine dropped to (all_passed nothing whole text) =
      let unbroken = nothing_unbroken p.rest nothing in
      let calm : (has_ended : Bool) → (is_broken p.rest || (has_ended && not (is_nothing p.rest))) ≡ false = λ t. by_end t (is_broken p.rest) (is_nothing p.rest) unbroken nothing in
      inr (
        ap₂ (λ (f : Option ClientEnd) (t : Bool). option_or f (if t then Some broken_answer else None)) fine (calm k.has_ended),
        inl (record { free = ap (λ (t : Bool). t || is_broken p.rest || k.has_ended) nothing; text = text; to = to }),
      )
    where
      by_end : (t b n : Bool) → b ≡ false → n ≡ true → (b || (t && not n)) ≡ false
      by_end true false true x y = refl
      by_end false false true x y = refl
      by_end t true n x y = absurd (false≢true (sym x))
      by_end t b false x y = absurd (false≢true y)
  passed_state outs ds rest k future asked a s body p fine dropped to (some_left something unbroken left says) =
      by_end k.has_ended refl
    where
      by_end : (t : Bool) → k.has_ended ≡ t → IsIn (passed_body k.has_ended body k p) future asked rest (a ∷ outs) (s ∷ ds)
      by_end true e =
          inl
          (inr (
            ap₂ (λ (f : Option ClientEnd) (t : Bool). option_or f (if t then Some broken_answer else None)) fine
                (λ i. unbroken i || (e i && not (something i))),
            e,
          ))
      by_end false e =
          inr (
            ap₂ (λ (f : Option ClientEnd) (t : Bool). option_or f (if t then Some broken_answer else None)) fine
                (λ i. unbroken i || (e i && not (something i))),
            inr (record {
              body = record body { rest = p.rest; is_done = is_nothing p.rest || is_broken p.rest || k.has_ended };
              is = refl;
              goes_on = λ i. something i || unbroken i || e i;
              left = left;
              says = says;
              giving = subst (λ (t : Bool). IsGiving t a.items left s.bytes) (sym dropped) tt;
              to = to;
            }),
          )

  busy_passes : (outs : List ReadAnswer) (ds rest : List SentAnswer) (k : ClientKept) (future : List ℕ) (asked : List Waiting) (reading : Option ReadingBody)
      → k.reading ≡ reading → k.failed ≡ None → IsBusy k future asked rest outs ds → IsIn (passing reading k) future asked rest outs ds
  busy_passes [] ds rest k future asked reading is fine b = absurd b
  busy_passes (a ∷ outs) [] rest k future asked reading is fine b = absurd b
  busy_passes (a ∷ outs) (s ∷ ds) rest k future asked None is fine b = let no : ◌≡◌ {A = Option ReadingBody} None (Some b.body) = sym is ∙ b.is in absurd (cc no)
  busy_passes (a ∷ outs) (s ∷ ds) rest k future asked (Some body) is fine b =
      let named : ◌≡◌ {A = Option ReadingBody} (Some b.body) (Some body) = sym b.is ∙ is in
      let same : b.body ≡ body = cc named in
      by_drop body.was_dropped refl same
    where
      by_drop : (t : Bool) → body.was_dropped ≡ t → b.body ≡ body → IsIn (passing (Some body) k) future asked rest (a ∷ outs) (s ∷ ds)
      by_drop false kept same = subst (λ (m : ClientKept). IsIn m future asked rest (a ∷ outs) (s ∷ ds)) (sym (kept_passes k body kept)) (inr (fine, inr b))
      by_drop true dropped same =
          let going : body.is_done ≡ false = subst (λ (x : ReadingBody). x.is_done ≡ false) same b.goes_on in
          let says = subst (λ (x : ReadingBody). RestSays x.rest (k.unread ++ future) b.left s.is_whole (sent_text rest)) same b.says in
          subst (λ (m : ClientKept). IsIn m future asked rest (a ∷ outs) (s ∷ ds)) (sym (dropped_passes k body dropped going))
          (passed_state outs ds rest k future asked a s body (pass_rest k.has_ended body.rest k.unread) fine dropped b.to
          (pass_goes_on k.has_ended body.rest k.unread future b.left s.is_whole (sent_text rest) says))

  pub failed_passes : (k : ClientKept) (reading : Option ReadingBody) → is_some k.failed ≡ true → is_some (passing reading k).failed ≡ true
  failed_passes k None failed = failed
  failed_passes k (Some body) failed = by_test (body.was_dropped && not body.is_done)
    where
      by_test : (t : Bool) → is_some (if t then passed_body k.has_ended body k (pass_rest k.has_ended body.rest k.unread) else k).failed ≡ true
      by_test true = failed_stays k.failed _ failed
      by_test false = failed

  faulty_passes : (k : ClientKept) (reading : Option ReadingBody) → IsFaulty k.failed k.has_ended
      → IsFaulty (passing reading k).failed (passing reading k).has_ended
  faulty_passes k None faulty = faulty
  faulty_passes k (Some body) faulty = by_test (body.was_dropped && not body.is_done)
    where
      by_test : (t : Bool)
          → IsFaulty (if t then passed_body k.has_ended body k (pass_rest k.has_ended body.rest k.unread) else k).failed
          (if t then passed_body k.has_ended body k (pass_rest k.has_ended body.rest k.unread) else k).has_ended
      by_test true = faulty_stays k.failed _ k.has_ended faulty
      by_test false = faulty

  ended_passes : (k : ClientKept) (reading : Option ReadingBody) → (passing reading k).has_ended ≡ k.has_ended
  ended_passes k None = refl
  ended_passes k (Some body) = by_test (body.was_dropped && not body.is_done)
    where
      by_test : (t : Bool) → (if t then passed_body k.has_ended body k (pass_rest k.has_ended body.rest k.unread) else k).has_ended ≡ k.has_ended
      by_test true = refl
      by_test false = refl

  pub passing_holds : (stray : List Item) (outs : List ReadAnswer) (done rest : List SentAnswer) (k : ClientKept) (future : List ℕ) (asked : List Waiting)
      → Holds stray outs done rest k future asked → Holds stray outs done rest (passing k.reading k) future asked
  passing_holds stray outs done rest k future asked h = record {
    none = h.none;
    are = h.are;
    so = subst (λ (t : Bool). AreSo t outs done) (sym (ended_passes k k.reading)) h.so;
    sent = h.sent;
    held = h.held;
    state = elim h.state [
      | inl failed ↦ inl (faulty_passes k k.reading failed)
      | inr (fine, x) ↦ elim x [
        | inl f ↦ subst (λ (m : ClientKept). IsIn m future asked rest outs done) (sym (done_passes k k.reading f.free)) (inr (fine, inl f))
        | inr b ↦ busy_passes outs done rest k future asked k.reading refl fine b
      ]
    ];
  }

  -- ---- the end of the input

  stop_ended : (t whole : Bool) (bytes : List ℕ) (pieces : List (List ℕ)) (last : List Item) → IsStop t whole bytes pieces last → IsStop true whole bytes pieces last
  stop_ended t whole bytes pieces [] x = tt
  stop_ended t whole bytes pieces (item_end ∷ []) x = x
  stop_ended t whole bytes pieces (item_fault incomplete ∷ []) x = refl
  stop_ended t whole bytes pieces _ x = x

  so_ended : (t : Bool) (outs : List ReadAnswer) (ds : List SentAnswer) → AreSo t outs ds → AreSo true outs ds
  so_ended t [] [] x = tt
  so_ended t [] (s ∷ ds) x = absurd x
  so_ended t (a ∷ outs) [] x = absurd x
  so_ended t (a ∷ outs) (s ∷ ds) x = (
    record {
      reading = x.0.reading;
      body =
          let b = x.0.body in
          record {
            pieces = b.pieces;
            last = b.last;
            are = b.are;
            some = b.some;
            begins = b.begins;
            stops = stop_ended t s.is_whole s.bytes b.pieces b.last b.stops;
          };
    },
    so_ended t outs ds x.1,
  )

  end_free : (bytes : List ℕ) (reading : Option ReadingBody) → is_free_of (body_at_end bytes reading) ≡ is_free_of reading
  end_free bytes None = refl
  end_free bytes (Some body) = refl

  end_busy : (outs : List ReadAnswer) (ds rest : List SentAnswer) (k : ClientKept) (future : List ℕ) (asked : List Waiting)
      → IsBusy k future asked rest outs ds → IsBusy (record k { has_ended = true; reading = body_at_end k.unread k.reading }) future asked rest outs ds
  end_busy [] ds rest k future asked b = absurd b
  end_busy (a ∷ outs) [] rest k future asked b = absurd b
  end_busy (a ∷ outs) (s ∷ ds) rest k future asked b = record {
    body = b.body;
    is = ap (body_at_end k.unread) b.is
        ∙ ap (λ (r : Rest). Some (record b.body { rest = r })) (rest_stays true k.unread b.body.rest (k.unread ++ future) b.left s.is_whole (sent_text rest) b.says);
    goes_on = b.goes_on;
    left = b.left;
    says = b.says;
    giving = b.giving;
    to = b.to;
  }

  pub end_holds : (stray : List Item) (outs : List ReadAnswer) (done rest : List SentAnswer) (k : ClientKept) (future : List ℕ) (asked : List Waiting)
      → Holds stray outs done rest k future asked
      → Holds stray outs done rest (record k { has_ended = true; reading = body_at_end k.unread k.reading }) future asked
  end_holds stray outs done rest k future asked h = record {
    none = h.none;
    are = h.are;
    so = so_ended k.has_ended outs done h.so;
    sent = h.sent;
    held = h.held;
    state = elim h.state [
      | inl failed ↦ inl (elim failed [ inl own ↦ inl own | inr (cut, _) ↦ inr (cut, refl) ])
      | inr (fine, x) ↦ elim x [
        | inl f ↦ inr (fine, inl (record { free = end_free k.unread k.reading ∙ f.free; text = f.text; to = f.to }))
        | inr b ↦ inr (fine, inr (end_busy outs done rest k future asked b))
      ]
    ];
  }

  -- ---- a body that is dropped

  drop_busy : (outs : List ReadAnswer) (ds rest : List SentAnswer) (k : ClientKept) (future : List ℕ) (asked : List Waiting) (body : ReadingBody)
      → k.reading ≡ Some body → IsBusy k future asked rest outs ds
      → IsBusy (record k { reading = Some (record body { was_dropped = true }) }) future asked rest outs ds
  drop_busy [] ds rest k future asked body is b = absurd b
  drop_busy (a ∷ outs) [] rest k future asked body is b = absurd b
  drop_busy (a ∷ outs) (s ∷ ds) rest k future asked body is b =
      let named : ◌≡◌ {A = Option ReadingBody} (Some b.body) (Some body) = sym b.is ∙ is in
      let same : b.body ≡ body = cc named in
      record {
        body = record body { was_dropped = true };
        is = refl;
        goes_on = subst (λ (x : ReadingBody). x.is_done ≡ false) same b.goes_on;
        left = b.left;
        says = subst (λ (x : ReadingBody). RestSays x.rest (k.unread ++ future) b.left s.is_whole (sent_text rest)) same b.says;
        giving = tt;
        to = b.to;
      }

  pub drop_holds : (stray : List Item) (outs : List ReadAnswer) (done rest : List SentAnswer) (k : ClientKept) (future : List ℕ) (asked : List Waiting)
      (body : ReadingBody) → k.reading ≡ Some body → Holds stray outs done rest k future asked
      → Holds stray outs done rest (record k { reading = Some (record body { was_dropped = true }) }) future asked
  drop_holds stray outs done rest k future asked body is h = record {
    none = h.none;
    are = h.are;
    so = h.so;
    sent = h.sent;
    held = h.held;
    state = elim h.state [
      | inl failed ↦ inl failed
      | inr (fine, x) ↦ elim x [
        | inl f ↦ inr (fine, inl (record { free = ap is_free_of (sym is) ∙ f.free; text = f.text; to = f.to }))
        | inr b ↦ inr (fine, inr (drop_busy outs done rest k future asked body is b))
      ]
    ];
  }
