-- What is said of a result, one fact from another.
use Rattle.std.proofs.Common.{Result, Ok, Err}
use Rattle.std.specs.Prelude.{IfOk, OnOk, OnErr}

pub ok_map : {A E : Type 0} (r : Result A E) (P Q : A → Type 0) → ((a : A) → P a → Q a) → IfOk r P → IfOk r Q
ok_map (Ok a) P Q f x = f a x
ok_map (Err e) P Q f x = tt

pub ok_both : {A E : Type 0} (r : Result A E) (P : A → Type 0) (Q : Type 0) (R : A → Type 0) → ((a : A) → P a → Q → R a) → IfOk r P → OnOk r Q → IfOk r R
ok_both (Ok a) P Q R f x y = f a x y
ok_both (Err e) P Q R f x y = tt

pub ok_two : {A E : Type 0} (r : Result A E) (P Q R : A → Type 0) → ((a : A) → P a → Q a → R a) → IfOk r P → IfOk r Q → IfOk r R
ok_two (Ok a) P Q R f x y = f a x y
ok_two (Err e) P Q R f x y = tt

pub ok_more : {A E : Type 0} (r : Result A E) (P : A → Type 0) (Q : Type 0) (N R : A → Type 0) → ((a : A) → P a → Q → N a → R a) → IfOk r P → OnOk r Q → IfOk r N
    → IfOk r R
ok_more (Ok a) P Q N R f x y z = f a x y z
ok_more (Err e) P Q N R f x y z = tt

pub on_map : {A E : Type 0} (r : Result A E) (P Q : Type 0) → (P → Q) → OnOk r P → OnOk r Q
on_map (Ok a) P Q f x = f x
on_map (Err e) P Q f x = tt

pub on_ok : {A E : Type 0} (r : Result A E) (P : A → Type 0) (Q : Type 0) → ((a : A) → P a → Q) → IfOk r P → OnOk r Q
on_ok (Ok a) P Q f x = f a x
on_ok (Err e) P Q f x = tt

pub on_any : {A E : Type 0} (r : Result A E) (P : Type 0) → P → OnOk r P
on_any (Ok a) P x = x
on_any (Err e) P x = tt

pub on_both : {A E : Type 0} (r : Result A E) (P Q R : Type 0) → (P → Q → R) → OnOk r P → OnOk r Q → OnOk r R
on_both (Ok a) P Q R f x y = f x y
on_both (Err e) P Q R f x y = tt

pub err_map : {A E : Type 0} (r : Result A E) (P Q : Type 0) → (P → Q) → OnErr r P → OnErr r Q
err_map (Ok a) P Q f x = tt
err_map (Err e) P Q f x = f x

pub err_any : {A E : Type 0} (r : Result A E) (P : Type 0) → P → OnErr r P
err_any (Ok a) P x = tt
err_any (Err e) P x = x

pub ok_three : {A E : Type 0} (r : Result A E) (P : A → Type 0) (Q S : Type 0) (R : A → Type 0) → ((a : A) → P a → Q → S → R a) → IfOk r P → OnOk r Q → OnOk r S
    → IfOk r R
ok_three (Ok a) P Q S R f x y z = f a x y z
ok_three (Err e) P Q S R f x y z = tt
