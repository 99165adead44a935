-- Requests that go to the handler, one after the other, until the end.
use Rattle.std.specs.Prelude.{◌≡◌, ℕ, Bool, true, false, if◌then◌else◌, List, [], ◌∷◌, ◌++◌, Option, Some, None, IfSome, IfOk, Result, Ok, Err, is_none, is_some, option_and_then}
use Rattle.std.proofs.Common.{refl, sym, ap, subst, ◌∙◌, append_assoc, append-nil}
use Rattle.http_config.specs.Config.{Settings}
use Rattle.model_h1.specs.Event as on
use Rattle.model_h1.specs.Event.{Event, Outcome}
use Rattle.model_h1.specs.Request.{Head}
use Rattle.model_h1.specs.Sums.{Step, written}
use Rattle.model_h1.specs.Text.{text}
use Rattle.h1_connection.specs.EventMeaning.{setting_of, end_of}
use Rattle.h1_connection.specs.declared.event.End.{End}
use Rattle.h1_decoder.specs.declared.decoder.HeadItem.{HeadItem}
use Rattle.h1_strict.specs.Judgement.{status_of}
use Rattle.serve_blocking.specs.Judged.{doubt_if}
use Rattle.serve_blocking.specs.Served.{Line, Base, IsServed, IsServedBehind, Follows, Adds, HandsOutOne, SayHeads, Notes, is_admitted, admitted, IsHandled, Handles, IsWritten, HandlesToEnd, Hosts, HostsToEnd, opened, socket_line}
use Rattle.serve_blocking.proofs.Followed.{behind_then}

-- ---- lists that grow

say_both : (xs : List HeadItem) (hs : List Head) (ys : List HeadItem) (ks : List Head) → SayHeads xs hs → SayHeads ys ks → SayHeads (xs ++ ys) (hs ++ ks)
say_both [] [] ys ks first second = second
say_both [] (h ∷ hs) ys ks first second = absurd first
say_both (x ∷ xs) [] ys ks first second = absurd first
say_both (x ∷ xs) (h ∷ hs) ys ks first second = (first.0, say_both xs hs ys ks first.1 second)

put_if : (b : Bool) (x : HeadItem) (l m : List HeadItem) → (if b then x ∷ (l ++ m) else (l ++ m)) ≡ (if b then x ∷ l else l) ++ m
put_if true x l m = refl
put_if false x l m = refl

admitted_both : (judges : Bool) (xs ys : List HeadItem) → admitted judges (xs ++ ys) ≡ admitted judges xs ++ admitted judges ys
admitted_both judges [] ys = refl
admitted_both judges (x ∷ xs) ys =
    ap (λ (l : List HeadItem). if is_admitted judges x then x ∷ l else l) (admitted_both judges xs ys)
    ∙ put_if (is_admitted judges x) x (admitted judges xs) (admitted judges ys)

notes_none : (was : Option (List HeadItem)) → Notes was was []
notes_none None = tt
notes_none (Some items) = sym (append-nil items)

notes_then : (was mid now : Option (List HeadItem)) (xs ys : List HeadItem) → Notes was mid xs → Notes mid now ys → Notes was now (xs ++ ys)
notes_then None mid now xs ys first second = tt
notes_then (Some a) None now xs ys first second = absurd first
notes_then (Some a) (Some b) None xs ys first second = absurd second
notes_then (Some a) (Some b) (Some c) xs ys first second = second ∙ ap (λ (l : List HeadItem). l ++ ys) first ∙ append_assoc a xs ys

-- a request whose head is refused doesn't go to the handler, and each other one does
pub notes_refused : (judges : Bool) (item : HeadItem) (status : ℕ) (was : Option (List HeadItem))
    → option_and_then status_of (doubt_if judges item) ≡ Some status → Notes was was (admitted judges (item ∷ []))
notes_refused judges item status was is =
    subst (λ (o : Option ℕ). Notes was was (if is_none o then item ∷ [] else [])) (sym is) (notes_none was)

pub notes_admitted : (judges : Bool) (item : HeadItem) (was now : Option (List HeadItem))
    → option_and_then status_of (doubt_if judges item) ≡ None → Notes was now (item ∷ []) → Notes was now (admitted judges (item ∷ []))
notes_admitted judges item was now is noted =
    subst (λ (o : Option ℕ). Notes was now (if is_none o then item ∷ [] else [])) (sym is) noted

-- ---- requests

pub handles_none : (a : Line) (was : Option (List HeadItem)) → Handles a was a was
handles_none a was = record {
  goes = λ base served. record {
    heads = [];
    items = [];
    said = tt;
    noted = notes_none was;
    behind = subst (λ (hs : List Head). IsServedBehind (record base { handed = hs }) served.trace a) (sym (append-nil base.handed))
        (record { more = []; served = served; longer = refl });
  };
}

pub handles_follow : (a b : Line) (was : Option (List HeadItem)) → Follows a b → Handles a was b was
handles_follow a b was follows = record {
  goes = λ base served. record {
    heads = [];
    items = [];
    said = tt;
    noted = notes_none was;
    behind = subst (λ (hs : List Head). IsServedBehind (record base { handed = hs }) served.trace b) (sym (append-nil base.handed)) ((follows.goes base).1 served);
  };
}

pub handles_then : (a b c : Line) (was now : Option (List HeadItem)) → Handles a was b now → Follows b c → Handles a was c now
handles_then a b c was now handles follows = record {
  goes = λ base served.
      let x = handles.goes base served in
      let y = (follows.goes (record base { handed = base.handed ++ x.heads })).1 x.behind.served in
      record {
        heads = x.heads;
        items = x.items;
        said = x.said;
        noted = x.noted;
        behind = behind_then _ _ served.trace b c x.behind y;
      };
}

-- the same behind the same trace, with a body that isn't wanted yet, and with what its answer says
abbrev behind_opened : (base : Base) (before : List Step) (a : Line) (wanted closes : Bool) → IsServedBehind base before a
    → IsServedBehind base before (record a { wanted = wanted; closes = closes })
behind_opened base before a wanted closes x = record {
  more = x.more;
  served = record {
    trace = x.served.trace;
    stands = x.served.stands;
    came = x.served.came;
    went = x.served.went;
    handed = x.served.handed;
    judges = x.served.judges;
    ended = x.served.ended;
    at_end = x.served.at_end;
  };
  longer = x.longer;
}

-- one request
pub handles_one : (a b c : Line) (was now : Option (List HeadItem)) (item : HeadItem) → HandsOutOne a b item
    → Notes was now (admitted b.judges (item ∷ [])) → Follows (opened b item) c → Handles a was c now
handles_one a b c was now item one noted follows = record {
  goes = λ base served.
      let (h, says, x) = one.goes base served in
      let y = behind_opened (record base { handed = base.handed ++ (h ∷ []) }) served.trace b false (is_some (doubt_if b.judges item)) x in
      record {
        heads = h ∷ [];
        items = item ∷ [];
        said = (says, tt);
        noted = subst (λ (j : Bool). Notes was now (admitted j (item ∷ []))) y.served.judges noted;
        behind = behind_then _ _ served.trace (opened b item) c y ((follows.goes (record base { handed = base.handed ++ (h ∷ []) })).1 y.served);
      };
}

-- the same requests, in another list
abbrev behind_as : (base : Base) (before : List Step) (line : Line) (hs ks : List Head) → hs ≡ ks → IsServedBehind (record base { handed = hs }) before line
    → IsServedBehind (record base { handed = ks }) before line
behind_as base before line hs ks same x = record {
  more = x.more;
  served = record {
    trace = x.served.trace;
    stands = x.served.stands;
    came = x.served.came;
    went = x.served.went;
    handed = x.served.handed ∙ same;
    judges = x.served.judges;
    ended = x.served.ended;
    at_end = x.served.at_end;
  };
  longer = x.longer;
}

-- some requests, and then some more
abbrev handled_both : (base : Base) (before : List Step) (b c : Line) (was mid now : Option (List HeadItem)) (x : IsHandled base before was mid b)
    → IsHandled (record base { handed = base.handed ++ x.heads }) x.behind.served.trace mid now c → IsHandled base before was now c
handled_both base before b c was mid now x y = record {
  heads = x.heads ++ y.heads;
  items = x.items ++ y.items;
  said = say_both x.items x.heads y.items y.heads x.said y.said;
  noted = subst (λ (l : List HeadItem). Notes was now l) (sym (admitted_both base.judges x.items y.items))
      (notes_then was mid now (admitted base.judges x.items) (admitted base.judges y.items) x.noted y.noted);
  behind = behind_as base before c ((base.handed ++ x.heads) ++ y.heads) (base.handed ++ (x.heads ++ y.heads)) (append_assoc base.handed x.heads y.heads)
      (behind_then _ _ before b c x.behind y.behind);
}

pub handles_both : (a b c : Line) (was mid now : Option (List HeadItem)) → Handles a was b mid → Handles b mid c now → Handles a was c now
handles_both a b c was mid now first second = record {
  goes = λ base served.
      let x = first.goes base served in
      handled_both base served.trace b c was mid now x (second.goes (record base { handed = base.handed ++ x.heads }) x.behind.served);
}

-- ---- the end

-- The connection ended for this reason: that is the last that happened, no request is handed out, and the bytes written are
-- the text of all answers.
pub record EndsFor (end : End) (old new : Line) : Type 0 where
  pub goes : (base : Base) (served : IsServed base old)
      → (behind : IsServedBehind base served.trace new) × (last : List Step)
      × (behind.served.trace ≡ record { event = on.next; outcome = on.closed (end_of end) } ∷ last)
      × (written behind.served.trace ≡ text (setting_of new.state.settings) behind.served.trace)

-- the connection has ended, and all was written
pub ends_here : (a b : Line) (end : End) → Adds on.next (on.closed (end_of end)) a b → IsWritten b.state → EndsFor end a b
ends_here a b end adds all = record {
  goes = λ base served.
      let (y, is) = adds.goes base served in (
        y,
        served.trace,
        y.longer ∙ ap (λ (l : List Step). l ++ served.trace) is,
        all.all y.served.trace y.served.stands,
      );
}

pub to_its_end : (a b c : Line) (was now : Option (List HeadItem)) (end : End) → Handles a was b now → EndsFor end b c → HandlesToEnd a was end c now
to_its_end a b c was now end handles ends = record {
  goes = λ base served.
      let x = handles.goes base served in
      let (y, last, is, all) = ends.goes (record base { handed = base.handed ++ x.heads }) x.behind.served in
      record {
        handled = record { heads = x.heads; items = x.items; said = x.said; noted = x.noted; behind = behind_then _ _ served.trace b c x.behind y };
        last = last;
        ended = is;
        all_written = all;
      };
}

pub both_to_end : (a b c : Line) (was mid now : Option (List HeadItem)) (end : End) → Handles a was b mid → HandlesToEnd b mid end c now → HandlesToEnd a was end c now
both_to_end a b c was mid now end first second = record {
  goes = λ base served.
      let x = first.goes base served in
      let y = second.goes (record base { handed = base.handed ++ x.heads }) x.behind.served in
      record {
        handled = handled_both base served.trace b c was mid now x y.handled;
        last = y.last;
        ended = y.ended;
        all_written = y.all_written;
      };
}

pub at_some : (P : End → Type 0) (o : Option End) (e : End) → o ≡ Some e → IfSome o P → P e
at_some P (Some x) e is holds = subst P (cc is) holds
at_some P None e is holds = absurd (cc is)

-- ---- a socket

pub hosts_here : (settings : Settings) (judges : Bool) (a b : Line) (was now : Option (List HeadItem)) → a ≡ socket_line settings judges → Handles a was b now
    → Hosts settings judges was now
hosts_here settings judges a b was now is handles = record { line = b; handles = subst (λ (l : Line). Handles l was b now) is handles }

pub hosts_to_end : {E : Type 0} (r : Result End E) (settings : Settings) (judges : Bool) (a b : Line) (was now : Option (List HeadItem)) → a ≡ socket_line settings judges
    → IfOk r (λ end. HandlesToEnd a was end b now) → IfOk r (λ end. HostsToEnd settings judges was end now)
hosts_to_end (Ok end) settings judges a b was now is ends = record { line = b; ends = subst (λ (l : Line). HandlesToEnd l was end b now) is ends }
hosts_to_end (Err e) settings judges a b was now is ends = tt
