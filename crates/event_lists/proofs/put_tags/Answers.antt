-- `event_lists::put_tags` meets its contract: to fill a part is to store as many tags. Assumes nothing.
use Rattle.std.proofs.Common.{◌≡◌, ℕ, ◌+◌, ◌-◌, ◌≤◌, List, length, take, drop, replicate, arith, append_assoc, drop-drop, length-drop}
use Rattle.std.proofs.lemmas.List.{length-replicate, length-take-le}
use lib.Seq.{sets, sets-eq}
use borrow.Rule.Slice.PartMut.{put_mid}
use Rattle.event_lists.specs.Laid.{number_tags}
use Rattle.event_lists.proofs.put_tags.Goals as goal

-- a part of n places that holds tags alone
filled : (l ys : List ℕ) (at n : ℕ) → at + n ≤ length l → ys ≡ replicate (length (take n (drop at l))) 4
    → put_mid at n l ys ≡ sets l at (number_tags n)
filled l ys at n h e =
    let r : length (replicate {A = ℕ} n 4) ≡ n = length-replicate n 4 in
    let m : length (take n (drop at l)) ≡ n = length-take-le n (drop at l) (omega (arith, length-drop at l)) in
    rw (e, m, drop-drop n at l, ← append_assoc (take at l) (replicate n 4) (drop (at + n) l), sets-eq (replicate {A = ℕ} n 4) l at (omega arith), r)

pub returns : goal.returns
returns c = let a = c.args in filled a.tags.now c.fill.new.self a.from (a.to - a.from) (omega arith) (c.fill.ensures.after (λ y e. e))
