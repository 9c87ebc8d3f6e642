-- The laws of text through a lent buffer.
--     nothing, and_then, fits     no text; two texts one after the other; a text for which there is room
--     byte-room, byte_full, byte-lost     one byte
--     Adding                      a text on its way: to add the rest to l comes to adding the whole to l₀
use Prim.Native.Nat.{ℕ, suc, ◌+◌, ◌≤◌, ◌<◌}
use mathlib.Core.Path.{◌≡◌, refl, sym, ap, ◌∙◌}
use mathlib.Core.List.{List, [], ◌∷◌, ◌++◌}
use native.Mathlib.Nat.{add-zero, min-eq_left}
use native.Mathlib.Numerals.{add-one}
use native.Mathlib.Omega.{arith}
use lib.ListN.{length, set, length-set}
use lib.Seq.{sets, set_out}
use borrow.Author.Tests.{lt-ltb, le-ltb}
use Rattle.laws.specs.Stores.{Wrote}
use Rattle.def_text.specs.Buffer.{goes_to, waits_then, waits_after, held_after, Added}

pub length-held : (text l : List ℕ) (at : ℕ) → length (held_after l at text) ≡ length l
unfolding held_after
length-held [] l at = refl
length-held (b ∷ text) l at =
    length-held text (set l (goes_to (length l) at) b) (waits_then (length l) at) ∙ length-set l (goes_to (length l) at) b

pub waits-append : (a b : List ℕ) (n at : ℕ) → waits_after n at (a ++ b) ≡ waits_after n (waits_after n at a) b
unfolding waits_after
waits-append [] b n at = refl
waits-append (x ∷ a) b n at = waits-append a b n (waits_then n at)

pub held-append : (a b l : List ℕ) (at : ℕ)
    → held_after l at (a ++ b) ≡ held_after (held_after l at a) (waits_after (length l) at a) b
unfolding waits_after held_after
held-append [] b l at = refl
held-append (x ∷ a) b l at =
    let i = goes_to (length l) at in
    let w = waits_then (length l) at in
    held-append a b (set l i x) w
    ∙ ap (λ (n : ℕ). held_after (held_after (set l i x) w a) (waits_after n w a) b) (length-set l i x)

-- where there is room, a byte goes behind those that wait
pub goes-here : (n at : ℕ) → at < n → goes_to n at ≡ at
goes-here n at h = rw (lt-ltb _ _ h)

pub waits_there : (n at : ℕ) → at < n → waits_then n at ≡ suc at
waits_there n at h = rw (goes-here n at h, add-one) (min-eq_left h)

pub waits-fits : (text : List ℕ) (n at : ℕ) → at + length text ≤ n → waits_after n at text ≡ at + length text
unfolding waits_after
waits-fits [] n at h = sym (add-zero at)
waits-fits (b ∷ text) n at h =
    let k : at < n = omega arith in
    ap (λ (w : ℕ). waits_after n w text) (waits_there n at k) ∙ waits-fits text n (suc at) (omega arith) ∙ omega arith

pub held_fits : (text l : List ℕ) (at : ℕ) → at + length text ≤ length l → held_after l at text ≡ sets l at text
unfolding held_after
held_fits [] l at h = refl
held_fits (b ∷ text) l at h =
    let k : at < length l = omega arith in
    let e : length (set l at b) ≡ length l = length-set l at b in
    ap (λ (i : ℕ). held_after (set l i b) (waits_then (length l) at) text) (goes-here (length l) at k)
    ∙ ap (λ (w : ℕ). held_after (set l at b) w text) (waits_there (length l) at k)
    ∙ held_fits text (set l at b) (suc at) (omega arith)

pub nothing : {l : List ℕ} {at : ℕ} → Added l at [] l at
unfolding waits_after held_after
nothing = record { place = refl; held = refl }

pub same : {l l' text : List ℕ} {at at' : ℕ} → Added l at text l' at' → length l' ≡ length l
same {l} {l'} {text} {at} p = ap length p.held ∙ length-held text l at

pub and_then : {l m n : List ℕ} {i j k : ℕ} {a b : List ℕ} → Added l i a m j → Added m j b n k → Added l i (a ++ b) n k
and_then {l} {m} {n} {i} {j} {k} {a} {b} p q =
    record {
      place = q.place ∙ (rw (same p, p.place) (sym (waits-append a b (length l) i)));
      held = q.held ∙ (rw (p.held, p.place) (sym (held-append a b l i)));
    }

-- the text is known under another name
pub reads : {l l' a b : List ℕ} {at at' : ℕ} → a ≡ b → Added l at a l' at' → Added l at b l' at'
reads e p = rw (← e) p

-- a text for which there was room was stored behind what waits
pub fits : {l l' text : List ℕ} {at at' : ℕ} → at + length text ≤ length l → Wrote l at text l' at'
    → Added l at text l' at'
fits {l} {l'} {text} {at} h w =
    record {
      place = w.past ∙ sym (waits-fits text (length l) at h);
      held = w.stored ∙ sym (held_fits text l at h);
    }

-- one byte: into room; to the front of a full buffer; to a buffer of no bytes
pub goes-front : (n at : ℕ) → n ≤ at → goes_to n at ≡ 0
goes-front n at h = rw (le-ltb _ _ h)

module _ {l : List ℕ} {at : ℕ} (b : ℕ) where
  pub byte-room : at < length l → Added l at (b ∷ []) (set l at b) (at + 1)
  byte-room h = fits (omega arith) (record { stored = refl; past = refl })

  pub byte_full : length l ≤ at → 0 < length l → Added l at (b ∷ []) (set l 0 b) 1
  unfolding waits_after held_after
  byte_full h k =
      record {
        place = sym (rw (goes-front (length l) at h) (min-eq_left k));
        held = sym (ap (λ (i : ℕ). set l i b) (goes-front (length l) at h));
      }

  pub byte-lost : length l ≤ at → length l ≤ 0 → Added l at (b ∷ []) l 0
  unfolding waits_after held_after
  byte-lost h k =
      record {
        place = omega arith;
        held = sym (ap (λ (i : ℕ). set l i b) (goes-front (length l) at h) ∙ set_out l 0 b k);
      }

pub record Adding (l₀ : List ℕ) (at₀ : ℕ) (whole l : List ℕ) (at : ℕ) (rest : List ℕ) : Type 0 where
  pub place : waits_after (length l) at rest ≡ waits_after (length l₀) at₀ whole
  pub held : held_after l at rest ≡ held_after l₀ at₀ whole
  pub same : length l ≡ length l₀

module _ {l₀ : List ℕ} {at₀ : ℕ} {whole : List ℕ} where
  pub start : Adding l₀ at₀ whole l₀ at₀ whole
  start = record { place = refl; held = refl; same = refl }

  -- what is still to come, said otherwise
  pub skip : {l rest rest' : List ℕ} {at : ℕ} → rest ≡ rest' → Adding l₀ at₀ whole l at rest
      → Adding l₀ at₀ whole l at rest'
  skip e f = rw (← e) f

  -- the next part was added
  pub next : {l l' xs rest rest' : List ℕ} {at at' : ℕ} → rest ≡ xs ++ rest' → Added l at xs l' at'
      → Adding l₀ at₀ whole l at rest → Adding l₀ at₀ whole l' at' rest'
  next {l} {l'} {xs} {rest} {rest'} {at} {at'} e p f =
      record {
        place =
            rw (same p, p.place) (sym (waits-append xs rest' (length l) at)
            ∙ ap (waits_after (length l) at) (sym e) ∙ f.place);
        held =
            rw (p.held, p.place) (sym (held-append xs rest' l at) ∙ ap (held_after l at) (sym e) ∙ f.held);
        same = same p ∙ f.same;
      }

  -- nothing is to come
  pub done : {l rest : List ℕ} {at : ℕ} → rest ≡ [] → Adding l₀ at₀ whole l at rest → Added l₀ at₀ whole l at
  unfolding waits_after held_after
  done {l} {rest} {at} e f =
      record {
        place = ap (waits_after (length l) at) (sym e) ∙ f.place;
        held = ap (held_after l at) (sym e) ∙ f.held;
      }
