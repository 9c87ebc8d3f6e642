-- One word of a list that goes word by word, whatever the reading. Assumes nothing.
--     words-cons, words-end         the words from an index of the bytes on
--     Turn here added ends rest     here a word's numbers are listed, and then, unless the list ends with it, the rest
--     fill-*, count-*               what it adds is stored, or counted
use Prim.Native.Nat.{ℕ, ◌+◌, ◌≤◌, ◌<◌}
use mathlib.Core.Path.{◌≡◌, ◌∙◌}
use mathlib.Core.Bool.{Bool, true, false, cond}
use mathlib.Core.List.{List, [], ◌∷◌, ◌++◌}
use native.Mathlib.Omega.{arith}
use lib.ListN.{length, drop}
use Rattle.def_wire.specs.Bytes.{words16, be16}
use Rattle.laws.specs.Stores.{Wrote, Filled}
use Rattle.laws.proofs.Filling.{Filling, room_for, wrote, wrote-last, Counting, counted}
use Rattle.utils.proofs.BytesLaws.{pair_up-cons, pair_up-end}

module _ (bytes : List ℕ) (at : ℕ) where
  -- fewer than two bytes are left
  pub words-end : length bytes ≤ at + 1 → words16 (drop at bytes) ≡ []
  words-end h = pair_up-end 256 bytes at h

  pub words-cons : at + 1 < length bytes → words16 (drop at bytes) ≡ be16 bytes at ∷ words16 (drop (at + 2) bytes)
  words-cons h = pair_up-cons 256 bytes at (omega arith)

pub record Turn (here added : List ℕ) (ends : Bool) (rest : List ℕ) : Type 0 where
  pub split : here ≡ added ++ cond ends [] rest

module _ {here added rest : List ℕ} {ends : Bool} (t : Turn here added ends rest) where
  pub last : ends ≡ true → here ≡ added ++ []
  last e = t.split ∙ (rw e)

  pub next : ends ≡ false → here ≡ added ++ rest
  next e = t.split ∙ (rw e)

  module _ {whole l₀ l : List ℕ} {n : ℕ} (f : Filling whole l₀ l here n) where
    pub fill-room : n + length added ≤ length l
    fill-room = room_for added _ t.split f

    pub fill-last : {l' : List ℕ} {n' : ℕ} → Wrote l n added l' n' → ends ≡ true → Filled whole l₀ n' l'
    fill-last w e = wrote-last (last e) w f

    pub fill-next : {l' : List ℕ} {n' : ℕ} → Wrote l n added l' n' → ends ≡ false → Filling whole l₀ l' rest n'
    fill-next w e = wrote (next e) w f

  module _ {whole : List ℕ} {n more : ℕ} (f : Counting whole here n) (m : more ≡ length added) where
    pub count_room : n + more ≤ length whole
    count_room = omega (arith, (counted added t.split m f).count)

    pub count-last : ends ≡ true → n + more ≡ length whole
    count-last e = omega (arith, (counted added (last e) m f).count)

    pub count_next : ends ≡ false → Counting whole rest (n + more)
    count_next e = counted added (next e) m f
