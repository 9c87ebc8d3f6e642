-- Each way in which a question ends: what its line is.
use Rattle.std.specs.Prelude.{Ok, Err}
use Prim.Native.Nat.{ℕ}
use mathlib.Core.Path.{◌≡◌, sym, ap, ◌∙◌}
use mathlib.Core.List.{List}
use native.Mathlib.Omega.{arith}
use Rattle.def_refusals.specs.Answers.{Or}
use Rattle.def_refusals.specs.declared.Refusal.{Refusal}
use Rattle.def_wire.specs.declared.Reading.{Reading}
use Rattle.def_wire.specs.Bytes.{byte_at}
use Rattle.def_wire.specs.Packet.{count_of, ssrc_of, locate, bytes_at}
use Rattle.def_wire.specs.Block.{header_data}
use Rattle.def_dump.specs.Lines.{refusal_line, blocks_line, view_line, word_line}
use Rattle.def_probe.specs.Requests.{blocks_told, view_told, word_told}
use Rattle.xr.specs.declared.Xr.{Xr}
use Rattle.xr.specs.Parsed.{parsed_to, parsed_of}

-- a packet that was parsed, by its count of blocks
told-packet : (s : List ℕ) (a : Or ℕ) (x : Xr) → parsed_to s a ≡ Ok x
    → blocks_line x.blocks x.ssrc ≡ blocks_told s a
told-packet s (Ok n) x e = let z : x ≡ record { blocks = n; ssrc = ssrc_of s } = cc in rw z
told-packet s (Err y) x e = absurd (let z : ◌≡◌ {A = ℕ} 0 1 = cc in omega arith)

told-unread : (s : List ℕ) (a : Or ℕ) (x : Refusal) → parsed_to s a ≡ Err x → refusal_line x ≡ blocks_told s a
told-unread s (Ok n) x e = absurd (let z : ◌≡◌ {A = ℕ} 0 1 = cc in omega arith)
told-unread s (Err y) x e = let z : x ≡ y = cc in ap refusal_line z

module _ (r : Reading) (s : List ℕ) (q : Or Xr) (e : q ≡ parsed_of r s) where
  pub parsed-packet : (x : Xr) → q ≡ Ok x → blocks_line x.blocks x.ssrc ≡ blocks_told s (count_of r s)
  unfolding parsed_of
  parsed-packet x d = told-packet s (count_of r s) x (sym e ∙ d)

  pub parsed-unread : (x : Refusal) → q ≡ Err x → refusal_line x ≡ blocks_told s (count_of r s)
  unfolding parsed_of
  parsed-unread x d = told-unread s (count_of r s) x (sym e ∙ d)

module _ (r : Reading) (s : List ℕ) (k : ℕ) (q : Or (ℕ × ℕ)) (e : q ≡ locate r s k) where
  pub view-at : (at n : ℕ) → q ≡ Ok (at, n) → (v : List ℕ) → v ≡ bytes_at s (locate r s k) → (h : List ℕ)
      → h ≡ header_data v → view_line at n h ≡ view_told s (locate r s k)
  view-at at n d v f h g = let l : locate r s k ≡ Ok (at, n) = sym e ∙ d in rw (g, f, l)

  pub view-missing : (x : Refusal) → q ≡ Err x → refusal_line x ≡ view_told s (locate r s k)
  view-missing x d = ap (view_told s) (sym d ∙ e)

pub word-is : (bytes : List ℕ) (hi lo : ℕ) → hi ≡ byte_at bytes 0 → lo ≡ byte_at bytes 1
    → word_line hi lo ≡ word_told bytes
word-is bytes hi lo e f = rw (e, f)
