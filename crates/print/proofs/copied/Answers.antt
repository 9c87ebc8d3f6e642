-- `print::copied` meets its contract: a text for which there is room.
use Rattle.std.proofs.Common.{ℕ, ◌+◌, ◌-◌, ◌≤◌, ◌≡◌, List, ◌++◌, length, take, drop, refl, sym, ◌∙◌, append_assoc, arith}
use Rattle.std.proofs.lemmas.List.{drop-drop}
use Rattle.std.proofs.lemmas.List.Edits.{sets, sets-eq}
use Rattle.print.proofs.copied.Goals as goal

-- a text in place of a part of a list that is as long
in_place : (l t : List ℕ) (at : ℕ) → at + length t ≤ length l
    → take at l ++ (t ++ drop (length t) (drop at l)) ≡ sets l at t
in_place l t at h =
    rw drop-drop (sym (append_assoc (take at l) t (drop (at + length t) l)) ∙ sym (sets-eq t l at h))

pub returns : goal.returns
returns c =
    let n : c.args.at + length c.args.t.now - c.args.at ≡ length c.args.t.now = omega arith in
    record {
      stored = rw (n, c.copy_from_slice.ensures.after) (in_place c.args.buf.now c.args.t.now c.args.at c.requires);
      past = refl;
    }
