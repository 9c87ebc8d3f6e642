-- The loop of `calls_into`, on plain lists and numbers. Assumes bytes below 256.
--     Underway          where the loop stands: what is still to be added
--     begun, onward     before the first call; behind the call for a size
--     ended, last       where no byte is left; behind the call for those that are
--     request-text      what is to be added for a request
use Prim.Native.Nat.{ℕ, suc, ◌+◌, ◌*◌, ◌-◌, ◌/◌, ◌≤◌, ◌<◌, min}
use mathlib.Core.Path.{◌≡◌, refl, sym, ap, ◌∙◌}
use mathlib.Core.List.{List, [], ◌∷◌, append-nil}
use native.Mathlib.Omega.{arith}
use lib.ListN.{length, take, drop, length-take, length-drop}
use lib.Seq.{take_all}
use Rattle.utils.proofs.BytesLaws.{Bytes}
use Rattle.def_jobs.specs.Jobs.{le16, le32}
use Rattle.def_portions.specs.Lists.{room_in}
use Rattle.def_text.specs.Buffer.{Added}
use Rattle.def_probe.specs.Requests.{list_room, sizes_at, calls_text, portions_text}
use Rattle.states.specs.declared.Portions.{Portions}
use Rattle.states.specs.Steps.{start}
use Rattle.print.proofs.AddedLaws.{Adding, start as none_yet, skip, next, done}
use Rattle.ask_portions.specs.declared.Told.{Told}
use Rattle.ask_portions.specs.Told.{Telling}
use Rattle.ask_portions.proofs.ReachedLaws.{Reached, reached-none, next-text, reached-next, no_text, last-text}

-- the sizes from the one at index i on
abbrev sizes_from : List ℕ → ℕ → ℕ → List ℕ
sizes_from p n i = sizes_at p (6 + 4 * i) (n - i)

sizes-next : (p : List ℕ) (n i : ℕ) → i < n → sizes_from p n i ≡ le32 p (6 + 4 * i) ∷ sizes_from p n (i + 1)
unfolding sizes_at
sizes-next p n i h =
    let e : n - i ≡ suc (n - (i + 1)) = omega arith in
    let f : 6 + 4 * (i + 1) ≡ 6 + 4 * i + 4 = omega arith in
    rw (e, f)

sizes-none : (p : List ℕ) (n i : ℕ) → n ≤ i → sizes_from p n i ≡ []
unfolding sizes_at
sizes-none p n i h = let e : n - i ≡ 0 = omega arith in rw e

-- n sizes in p, bytes x, and what was lent: four lists, and a buffer of which the first `at` bytes waited
module _ (p : List ℕ) (n : ℕ) (x t u v z l : List ℕ) (at : ℕ) where
  abbrev whole : List ℕ
  whole = calls_text (room_in t u v z) [] x (sizes_at p 6 n)

  -- before the call for the size at index i
  pub record Underway (t1 u1 v1 z1 l1 : List ℕ) (st : Portions) (from to i : ℕ) : Type 0 where
    pub turn : i ≤ n
    pub tags : length t1 ≡ length t
    pub numbers : length u1 ≡ length u
    pub values : length v1 ≡ length v
    pub sums : length z1 ≡ length z
    pub reached : Reached x st from
    pub text : Adding l at whole l1 to (calls_text (room_in t u v z) (take from x) (drop from x) (sizes_from p n i))

  pub begun : {st : Portions} → st ≡ start → Underway t u v z l st 0 at 0
  begun e =
      let m : n - 0 ≡ n = omega arith in
      record {
        turn = omega arith;
        tags = refl;
        numbers = refl;
        values = refl;
        sums = refl;
        reached = reached-none x e;
        text = rw m none_yet;
      }

  module _ {t1 u1 v1 z1 l1 : List ℕ} {st : Portions} {from to i : ℕ} (w : Underway t1 u1 v1 z1 l1 st from to i)
      (bytes : Bytes x) where
    -- the room is as it was
    room : room_in t1 u1 v1 z1 ≡ room_in t u v z
    room = rw (w.tags, w.numbers, w.values, w.sums)

    -- a call with the next so many bytes
    module _ (size : ℕ) (y : List ℕ) (e : y ≡ take size (drop from x)) (r : Told) (l2 : List ℕ)
        (c : Telling st y (room_in t1 u1 v1 z1) l1 to r l2) where
      called : Telling st (take size (drop from x)) (room_in t u v z) l1 to r l2
      called = rw (e, room) at c

      pub inside : from + r.taken ≤ length x
      inside = (reached-next bytes (room_in t u v z) w.reached size r.taken called.taken called.state).inside

      pub onward : i < n → size ≡ le32 p (6 + 4 * i) → {t2 u2 v2 z2 : List ℕ} → length t2 ≡ length t1
          → length u2 ≡ length u1 → length v2 ≡ length v1 → length z2 ≡ length z1
          → Underway t2 u2 v2 z2 l2 r.state (from + r.taken) r.at (i + 1)
      onward h f a b d g =
          let k = called in
          let m = room_in t u v z in
          record {
            turn = omega arith;
            tags = a ∙ w.tags;
            numbers = b ∙ w.numbers;
            values = d ∙ w.values;
            sums = g ∙ w.sums;
            reached = reached-next bytes m w.reached size r.taken k.taken k.state;
            text =
                next
                (ap (calls_text m (take from x) (drop from x)) (sizes-next p n i h ∙ (rw (← f)))
                ∙ next-text bytes m w.reached size r.taken k.taken (sizes_from p n (i + 1)))
                k.text w.text;
          }

    -- behind the last size
    module _ (h : n ≤ i) (y : List ℕ) (e : y ≡ take (length x) (drop from x)) where
      pub ended : length y ≡ 0 → Added l at whole l1 to
      ended o =
          done (no_text bytes (room_in t u v z) w.reached (rw e at o))
          (skip (ap (calls_text (room_in t u v z) (take from x) (drop from x)) (sizes-none p n i h)) w.text)

      pub last : (length y ≡ 0 → ⊥) → (r : Told) (l2 : List ℕ) → Telling st y (room_in t1 u1 v1 z1) l1 to r l2
          → Added l at whole l2 r.at
      last o r l2 c =
          let k = called (length x) y e r l2 c in
          done refl
          (next
          (ap (calls_text (room_in t u v z) (take from x) (drop from x)) (sizes-none p n i h)
          ∙ last-text bytes (room_in t u v z) w.reached (rw e at o) ∙ sym (append-nil _))
          k.text w.text)

-- a part of a list from its front on, and the least room of four: of the fourth a third of its length
part_length : (l : List ℕ) (m : ℕ) → m ≤ length l → length (take (m - 0) l) ≡ m
part_length l m h = length-take (m - 0) l ∙ omega arith

least-same : (m : ℕ) → min (min (min m m) m) (3 * m / 3) ≡ m
least-same m = let e : 3 * m / 3 ≡ m = omega arith in rw e (omega arith)

-- the request's text: so much room in each list, and the bytes behind the sizes
pub request-text : (p y t u v w : List ℕ) (n m : ℕ) → n ≡ le16 p 4 → m ≡ list_room p 0 → m ≤ length t → m ≤ length u
    → m ≤ length v → 3 * m ≤ length w → y ≡ take (length p) (drop (6 + 4 * n) p)
    → calls_text (room_in (take (m - 0) t) (take (m - 0) u) (take (m - 0) v) (take (3 * m - 0) w)) [] y (sizes_at p 6 n)
    ≡ portions_text p
unfolding portions_text
request-text p y t u v w n m e f a b d h g =
    let k : room_in (take (m - 0) t) (take (m - 0) u) (take (m - 0) v) (take (3 * m - 0) w) ≡ m =
    rw (part_length t m a, part_length u m b, part_length v m d, part_length w (3 * m) h) (least-same m) in
    rw (k, f, g, take_all (length p) (drop (6 + 4 * n) p) (omega (arith, length-drop (6 + 4 * n) p)), e)
