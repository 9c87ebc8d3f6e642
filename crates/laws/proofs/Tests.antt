-- Choices by a Bool, taken apart.
use Prim.Native.Nat.{ℕ}
use mathlib.Core.Path.{◌≡◌, refl}
use mathlib.Core.Bool.{Bool, true, false, cond, ◌&&◌}
use mathlib.Core.Logic.{◌⊎◌, inl, inr}
use native.Mathlib.Omega.{arith}

-- a test, with its fact
pub test : (b : Bool) → (b ≡ true) ⊎ (b ≡ false)
test true = inl refl
test false = inr refl

-- a choice that is known to give z
pub by-test : {A P : Type 0} (b : Bool) {x y z : A} → (b ≡ true → x ≡ z → P) → (b ≡ false → y ≡ z → P)
    → cond b x y ≡ z → P
by-test true f g e = f refl e
by-test false f g e = g refl e

-- a property of both sides of a choice
pub both : {A : Type 0} (P : A → Type 0) (b : Bool) {x y : A} → (b ≡ true → P x) → (b ≡ false → P y) → P (cond b x y)
both P true f g = f refl
both P false f g = g refl

-- a property by either outcome of a test
pub either : {P : Type 0} (b : Bool) → (b ≡ true → P) → (b ≡ false → P) → P
either true f g = f refl
either false f g = g refl

pub true≢false : {P : Type 0} → ◌≡◌ {A = Bool} false true → P
true≢false e = absurd (let y : ◌≡◌ {A = ℕ} 0 1 = cc in omega arith)

pub and-true : (a b : Bool) → (a && b) ≡ true → (a ≡ true) × (b ≡ true)
and-true true b e = (refl, e)
and-true false b e = true≢false e

pub and_false_r : (b : Bool) → (b && false) ≡ false
and_false_r true = refl
and_false_r false = refl

pub and_true_r : (b : Bool) → (b && true) ≡ b
and_true_r true = refl
and_true_r false = refl
