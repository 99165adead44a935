-- What is read of a request's body.
use Rattle.std.specs.Prelude.{◌≡◌, ◌⊎◌, ℕ, Bool, true, false, List, [], ◌∷◌, ◌++◌, Option, Some, None, Result, Ok, Err, IfOk, IfErr, IfSome, IfNone}
use Rattle.std.proofs.Common.{refl, sym, ap, subst, ◌∙◌, inl, inr}
use Rattle.model_h1.specs.Event as on
use Rattle.model_h1.specs.Sums.{Step}
use Rattle.h1_payload.specs.Rests.{fault_of}
use Rattle.h1_payload.specs.declared.pulled.BodyFault.{BodyFault}
use Rattle.h1_payload.specs.declared.pulled.Pulled.{Pulled}
use Rattle.h1_payload.specs.declared.pulled.Pulled.TheVariants as pulled
use Rattle.serve_blocking.specs.declared.body.Piece.{Piece}
use Rattle.serve_blocking.specs.declared.body.Piece.TheVariants as piece
use Rattle.serve_blocking.specs.declared.error.HandleError.{HandleError}
use Rattle.serve_blocking.specs.declared.error.HandleError.TheVariants as handle_error
use Rattle.serve_blocking.specs.Served.{Line, Follows}
use Rattle.serve_blocking.specs.Acts.{Doing, Does, Waits, IsPulled, Pulls, IsPiece, IsNoPiece, Gives, GivesNone, IsRead, Reads, ReadsNone, is_loss, leave, may}
use Rattle.serve_blocking.proofs.Waited.{doing_then, doing_as, doing_follow, then_doing, does_wait, waits_do}
use Rattle.serve_blocking.proofs.Followed.{follows_then}

-- ---- behind a wait

pub then_gives : (p : Piece) (a b c : Line) → Waits a b → Gives p b c → Gives p a c
then_gives p a b c waits gives = then_doing (IsPiece p c) a b c waits gives

pub then_gives_none : (e : HandleError) (a b c : Line) → Waits a b → GivesNone e b c → GivesNone e a c
then_gives_none e a b c waits gives = then_doing (IsNoPiece e c) a b c waits gives

-- where a piece came
pub piece_came : (o : Option Piece) (p : Piece) (a b : Line) → o ≡ Some p → IfSome o (λ p. Gives p a b) → Gives p a b
piece_came (Some q) p a b is gives = let same : q ≡ p = cc is in subst (λ (x : Piece). Gives x a b) same gives
piece_came None p a b is gives = absurd (cc is)

pub none_came : (o : Option Piece) (a b : Line) → o ≡ None → IfNone o (Waits a b) → Waits a b
none_came None a b is waits = waits
none_came (Some p) a b is waits = absurd (cc is)

-- ---- where nothing more may be pulled

-- what was told then
pub told_piece : (r : Result Piece HandleError) (a b : Line) → Waits a b → IfOk r (λ p. (p ≡ piece.End) × (b.ended ≡ true)) → IfOk r (λ p. Gives p a b)
told_piece (Ok p) a b waits told =
    subst (λ (x : Piece). Gives x a b) (sym told.0)
    (doing_as (λ (l : List Step). l ≡ []) (IsPiece piece.End b) a b (λ xs none. inr (none, told.1)) (waits_do a b waits))
told_piece (Err e) a b waits told = tt

pub told_none : (r : Result Piece HandleError) (a b : Line) → Waits a b → may b.state on.drop_body ≡ false
    → IfErr r (λ e. (e ≡ handle_error.BrokenBody) × (b.ended ≡ false)) → IfErr r (λ e. GivesNone e a b)
told_none (Ok p) a b waits forbidden told = tt
told_none (Err e) a b waits forbidden told =
    subst (λ (x : HandleError). GivesNone x a b) (sym told.0)
    (doing_as (λ (l : List Step). l ≡ []) (IsNoPiece handle_error.BrokenBody b) a b (λ xs none. inr (none, told.1, forbidden)) (waits_do a b waits))

-- ---- where the connection is lost, stalls or has no memory

no_piece : (e : HandleError) (b : Line) (xs : List Step) → is_loss e ≡ true → xs ≡ [] → IsNoPiece e b xs
no_piece handle_error.Lost b xs loss none = (none, loss)
no_piece handle_error.Stalled b xs loss none = (none, loss)
no_piece handle_error.BrokenBody b xs loss none = absurd (cc loss)
no_piece handle_error.Misplaced b xs loss none = absurd (cc loss)
no_piece handle_error.NoMemory b xs loss none = (none, loss)
no_piece handle_error.Failed b xs loss none = absurd (cc loss)

pub lost_none : (e : HandleError) (a b : Line) → is_loss e ≡ true → Waits a b → GivesNone e a b
lost_none e a b loss waits = doing_as (λ (l : List Step). l ≡ []) (IsNoPiece e b) a b (λ xs none. no_piece e b xs loss none) (waits_do a b waits)

-- ---- behind the leave

pub read_piece : (r : Result Piece HandleError) (a b c : Line) → Does (leave a.state) a b → IfOk r (λ p. Gives p b c) → IfOk r (λ p. Reads p a c)
read_piece (Ok p) a b c left gives =
    doing_then (λ (l : List Step). l ≡ leave a.state) (IsPiece p c) (IsRead (IsPiece p c) a.state) a b c
    (λ xs ys is such. record { behind = ys; such = such; is = ap (λ (l : List Step). l ++ ys) is })
    left gives
read_piece (Err e) a b c left gives = tt

pub read_none : (r : Result Piece HandleError) (a b c : Line) → Does (leave a.state) a b → IfErr r (λ e. GivesNone e b c) → IfErr r (λ e. ReadsNone e a c)
read_none (Ok p) a b c left gives = tt
read_none (Err e) a b c left gives =
    doing_then (λ (l : List Step). l ≡ leave a.state) (IsNoPiece e c)
    (λ (l : List Step). ((e ≡ handle_error.NoMemory) × (l ≡ [])) ⊎ IsRead (IsNoPiece e c) a.state l) a b c
    (λ xs ys is such. inr (record { behind = ys; such = such; is = ap (λ (l : List Step). l ++ ys) is }))
    left gives

-- there was no memory to give leave
pub unread : (e : HandleError) (a b : Line) → e ≡ handle_error.NoMemory → Does [] a b → ReadsNone e a b
unread e a b memory does =
    doing_as (λ (l : List Step). l ≡ []) (λ (l : List Step). ((e ≡ handle_error.NoMemory) × (l ≡ [])) ⊎ IsRead (IsNoPiece e b) a.state l) a b
    (λ xs none. inl (memory, none)) does

pub read_follows : (r : Result Piece HandleError) (a b c : Line) → Follows a b → IfOk r (λ p. Gives p b c) → IfErr r (λ e. GivesNone e b c) → Follows a c
read_follows (Ok p) a b c follows gives none = follows_then a b c follows (doing_follow (IsPiece p c) b c gives)
read_follows (Err e) a b c follows gives none = follows_then a b c follows (doing_follow (IsNoPiece e c) b c none)

-- ---- what a pull gave

pub pulled_bytes : (answer : Pulled) (bytes : List ℕ) (a b : Line) → answer ≡ pulled.Bytes bytes → Pulls answer a b → Gives (piece.Bytes bytes) a b
pulled_bytes answer bytes a b is pulls = doing_as (IsPulled answer) (IsPiece (piece.Bytes bytes) b) a b (λ xs made. subst (λ (p : Pulled). IsPulled p xs) is made) pulls

pub pulled_trailers : (answer : Pulled) (trailers : _) (a b : Line) → answer ≡ pulled.Trailers trailers → Pulls answer a b → Gives (piece.Trailers trailers) a b
pulled_trailers answer trailers a b is pulls =
    doing_as (IsPulled answer) (IsPiece (piece.Trailers trailers) b) a b (λ xs made. subst (λ (p : Pulled). IsPulled p xs) is made) pulls

pub pulled_end : (answer : Pulled) (a b : Line) → answer ≡ pulled.End → Pulls answer a b → Gives piece.End a b
pulled_end answer a b is pulls =
    doing_as (IsPulled answer) (IsPiece piece.End b) a b (λ xs made. inl (subst (λ (p : Pulled). IsPulled p xs) is made)) pulls

pub pulled_broken : (answer : Pulled) (fault : BodyFault) (a b : Line) → answer ≡ pulled.Broken fault → Pulls answer a b → GivesNone handle_error.BrokenBody a b
pulled_broken answer fault a b is pulls =
    doing_as (IsPulled answer) (IsNoPiece handle_error.BrokenBody b) a b
    (λ xs made. inl (fault_of fault, subst (λ (p : Pulled). IsPulled p xs) is made)) pulls

pub pulled_none : (answer : Pulled) (a b : Line) → answer ≡ pulled.Pending → Pulls answer a b → b.wanted ≡ a.wanted → Waits a b
pulled_none answer a b is pulls wanted =
    does_wait a b (doing_as (IsPulled answer) (λ (l : List Step). l ≡ []) a b (λ xs made. subst (λ (p : Pulled). IsPulled p xs) is made) pulls) wanted
