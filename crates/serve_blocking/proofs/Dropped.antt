-- Bodies that are pulled and dropped.
use Rattle.std.specs.Prelude.{◌≡◌, List, [], ◌∷◌, ◌++◌}
use Rattle.std.proofs.Common.{refl, sym, subst}
use Rattle.model_h1.specs.Sums.{Step}
use Rattle.h1_payload.specs.declared.pulled.Pulled.{Pulled}
use Rattle.h1_payload.specs.declared.pulled.Pulled.TheVariants as pulled
use Rattle.serve_blocking.specs.Served.{Line, Follows}
use Rattle.serve_blocking.specs.Acts.{Doing, Does, Waits, ArePulls, Drops, Pulls, IsPulled}
use Rattle.serve_blocking.proofs.Waited.{doing_then, doing_as, does_none, waits_do}

pub pulls_both : (xs ys : List Step) → ArePulls xs → ArePulls ys → ArePulls (xs ++ ys)
pulls_both [] ys first second = second
pulls_both (s ∷ xs) ys first second = (first.0, pulls_both xs ys first.1 second)

pub no_pulls : (xs : List Step) → xs ≡ [] → ArePulls xs
no_pulls xs none = subst ArePulls (sym none) tt

one_pull : (s : Step) (xs : List Step) → ArePulls (s ∷ []) → xs ≡ s ∷ [] → ArePulls xs
one_pull s xs pull is = subst ArePulls (sym is) pull

pub drops_do : (a b : Line) → Drops a b → Doing ArePulls a b
drops_do a b drops = record { goes = drops.goes; closes = drops.closes }

pub do_drops : (a b : Line) → Doing ArePulls a b → Drops a b
do_drops a b doing = record { goes = doing.goes; closes = doing.closes }

pub does_drop : (a b : Line) → Does [] a b → Drops a b
does_drop a b does = do_drops a b (doing_as (λ (l : List Step). l ≡ []) ArePulls a b no_pulls does)

pub drops_none : (a : Line) → Drops a a
drops_none a = does_drop a a (does_none a)

pub drops_equal : (a b : Line) → b ≡ a → Drops a b
drops_equal a b same = subst (λ (l : Line). Drops a l) (sym same) (drops_none a)

pub waits_drop : (a b : Line) → Waits a b → Drops a b
waits_drop a b waits = does_drop a b (waits_do a b waits)

pub drops_then : (a b c : Line) → Drops a b → Drops b c → Drops a c
drops_then a b c first second = do_drops a c (doing_then ArePulls ArePulls ArePulls a b c pulls_both (drops_do a b first) (drops_do b c second))

pub drops_follow : (a b : Line) → Drops a b → Follows a b
drops_follow a b drops = record { goes = λ base. (drops.closes, λ served. (drops.goes base served).0) }

-- what was pulled is dropped
pub are_pulls : (p : Pulled) (xs : List Step) → IsPulled p xs → ArePulls xs
are_pulls (pulled.Bytes bytes) xs is = one_pull _ xs (refl, tt) is
are_pulls (pulled.Trailers trailers) xs is = one_pull _ xs (refl, tt) is.2
are_pulls pulled.End xs is = one_pull _ xs (refl, tt) is
are_pulls (pulled.Broken fault) xs is = one_pull _ xs (refl, tt) is
are_pulls pulled.Pending xs is = no_pulls xs is

pub pulls_drop : (p : Pulled) (a b : Line) → Pulls p a b → Drops a b
pulls_drop p a b pulls = do_drops a b (doing_as (IsPulled p) ArePulls a b (are_pulls p) pulls)
