-- The text that is printed: TextReachesOut, TextIsHeld, TextEndsAt, DecimalReads.
use Prim.Native.Nat.{ℕ, zero, suc, ◌+◌, ◌*◌, ◌-◌, ◌/◌, ◌%◌, ◌^◌, ◌≤◌, ◌<◌}
use mathlib.Core.Path.{◌≡◌, refl, sym, ap, subst⁻¹, ◌∙◌}
use mathlib.Core.Bool.{Bool, cond}
use mathlib.Core.List.{List, [], ◌∷◌, ◌++◌, append-nil, append_assoc}
use native.Mathlib.Nat.{add-zero, pow-suc, min-eq_left, mod-eq_of_lt, mod_self, mod-add-mod}
use native.Mathlib.Numerals.{add-one}
use native.Mathlib.Omega.{arith}
use lib.ListN.{length, take, drop, get_or, set, length-set, length-append, get_or-append}
use lib.Seq.{sets-eq, take-suc-set, take-length, take_at, drop_at, length-take-le, get_or-append_seam}
use lib.Dec.{ltb}
use borrow.Author.Tests.{lt-ltb, ltb-true, ltb-false}
use Rattle.laws.proofs.Tests.{either}
use Rattle.def_text.specs.Buffer.{goes_to, waits_then, waits_after, held_after, sent_after}
use Rattle.def_text.specs.Numerals.{glyph, decimal_within}
use Rattle.print.proofs.AddedLaws.{goes-here, goes-front, waits_there, waits-fits, held_fits, same}
use Rattle.claims.specs.Text.{TextReachesOut, TextIsHeld, TextEndsAt, read_on, Decimal, DecimalReads}

-- one more byte waits
waits_front : (n at : ℕ) → 0 < n → n ≤ at → waits_then n at ≡ 1
waits_front n at h k = rw (goes-front n at k) (min-eq_left h)

waits-within : (n at : ℕ) → waits_then n at ≤ n
waits-within n at = omega arith

-- what is written out and what waits, from one byte to the next
reaches : (text l : List ℕ) (at : ℕ) → 0 < length l → at ≤ length l
    → sent_after l at text ++ take (waits_after (length l) at text) (held_after l at text) ≡ take at l ++ text
unfolding waits_after held_after sent_after
reaches [] l at h k = sym (append-nil (take at l))
reaches (b ∷ text) l at h k =
    let i = goes_to (length l) at in
    let w = waits_then (length l) at in
    let m = set l i b in
    let e : length m ≡ length l = length-set l i b in
    let q : w ≤ length m = rw e (waits-within (length l) at) in
    let o : 0 < length m = rw e h in
    let r : sent_after m w text ++ take (waits_after (length l) w text) (held_after m w text) ≡ take w m ++ text =
    ap (λ (n : ℕ). sent_after m w text ++ take (waits_after n w text) (held_after m w text)) (sym e)
    ∙ reaches text m w o q in
    either (ltb at (length l))
    (λ t.
    let a : at < length l = ltb-true _ _ t in
    let f : i ≡ at = goes-here (length l) at a in
    let g : w ≡ suc at = waits_there (length l) at a in
    let p : take w m ≡ take at l ++ (b ∷ []) =
    ap (λ (j : ℕ). take w (set l j b)) f ∙ ap (λ (j : ℕ). take j (set l at b)) g ∙ take-suc-set l at b a in
    ap (λ (c : Bool). (cond c [] l ++ sent_after m w text) ++ take (waits_after (length l) w text) (held_after m w text))
    t
    ∙ r ∙ ap (λ (x : List ℕ). x ++ text) p ∙ append_assoc (take at l) (b ∷ []) text)
    (λ t.
    let a : length l ≤ at = ltb-false _ _ t in
    let z : at ≡ length l = omega arith in
    let f : i ≡ 0 = goes-front (length l) at a in
    let g : w ≡ suc 0 = waits_front (length l) at h a in
    let p : take w m ≡ b ∷ [] =
    ap (λ (j : ℕ). take w (set l j b)) f ∙ ap (λ (j : ℕ). take j (set l 0 b)) g ∙ take-suc-set l 0 b h in
    ap (λ (c : Bool). (cond c [] l ++ sent_after m w text) ++ take (waits_after (length l) w text) (held_after m w text))
    t
    ∙ append_assoc l (sent_after m w text) (take (waits_after (length l) w text) (held_after m w text))
    ∙ ap (λ (x : List ℕ). l ++ x) (r ∙ ap (λ (x : List ℕ). x ++ text) p)
    ∙ ap (λ (x : List ℕ). x ++ (b ∷ text)) (sym (ap (λ (j : ℕ). take j l) z ∙ take-length l)))

within : (text : List ℕ) (n at : ℕ) → at ≤ n → waits_after n at text ≤ n
unfolding waits_after
within [] n at h = h
within (b ∷ text) n at h = within text n (waits_then n at) (waits-within n at)

pub text-reaches-out : TextReachesOut
text-reaches-out l l' text at at' h k a =
    let e : length l' ≡ length l = same a in
    (rw (a.place, a.held) (reaches text l at h k), rw (e, a.place) (within text (length l) at k), e)

sent-none : (text l : List ℕ) (at : ℕ) → at + length text ≤ length l → sent_after l at text ≡ []
unfolding sent_after
sent-none [] l at h = refl
sent-none (b ∷ text) l at h =
    let k : at < length l = omega arith in
    let i = goes_to (length l) at in
    let w = waits_then (length l) at in
    let e : length (set l i b) ≡ length l = length-set l i b in
    let g : w ≡ suc at = waits_there (length l) at k in
    ap (λ (c : Bool). cond c [] l ++ sent_after (set l i b) w text) (lt-ltb at (length l) k)
    ∙ sent-none text (set l i b) w (omega arith)

pub text-is-held : TextIsHeld
text-is-held l l' text at at' h a =
    let p : at' ≡ at + length text = a.place ∙ waits-fits text (length l) at h in
    let f = take at l ++ text in
    let b = drop (at + length text) l in
    let q : l' ≡ f ++ b =
    a.held ∙ held_fits text l at h ∙ sets-eq text l at h in
    let n : length f ≡ at + length text =
    length-append (take at l) text ∙ ap (λ (j : ℕ). j + length text) (length-take-le at l (omega arith)) in
    record {
      waits = p;
      holds = rw (p, q) (take_at f b (at + length text) n);
      behind = rw (p, q) (drop_at f b (at + length text) n);
      sent = sent-none text l at h;
    }

-- where the place stands
waits-mod : (n at : ℕ) → 0 < n → at ≤ n → waits_then n at ≡ at % n + 1
waits-mod n at h k =
    either (ltb at n)
    (λ t.
    let a : at < n = ltb-true _ _ t in
    waits_there n at a ∙ sym (add-one at) ∙ ap (λ (j : ℕ). j + 1) (sym (mod-eq_of_lt a)))
    (λ t.
    let a : n ≤ at = ltb-false _ _ t in
    let z : n ≡ at = omega arith in
    waits_front n at h a ∙ ap (λ (j : ℕ). j + 1) (sym (mod_self n) ∙ ap (λ (j : ℕ). j % n) z))

ends : (text : List ℕ) (n at : ℕ) → 0 < n → at ≤ n
    → waits_after n (waits_then n at) text ≡ (at + length text) % n + 1
unfolding waits_after
ends [] n at h k = waits-mod n at h k ∙ ap (λ (j : ℕ). j % n + 1) (sym (add-zero at))
ends (b ∷ text) n at h k =
    let w = waits_then n at in
    let e : at % n + 1 + length text ≡ at % n + suc (length text) = omega arith in
    ends text n w h (waits-within n at)
    ∙ ap (λ (j : ℕ). (j + length text) % n + 1) (waits-mod n at h k)
    ∙ ap (λ (j : ℕ). j % n + 1) e ∙ ap (λ (j : ℕ). j + 1) (mod-add-mod at n (suc (length text)))

ends_at : (text : List ℕ) (n at : ℕ) → 0 < n → at ≤ n → 0 < length text
    → waits_after n at text ≡ (at + length text - 1) % n + 1
unfolding waits_after
ends_at [] n at h k o = absurd (omega arith)
ends_at (b ∷ text) n at h k o =
    let e : at + length text ≡ at + suc (length text) - 1 = omega arith in
    ends text n at h k ∙ ap (λ (j : ℕ). j % n + 1) e

pub text-ends-at : TextEndsAt
text-ends-at l l' text at at' h k o a = a.place ∙ ends_at text (length l) at h k o

-- digits, the last one behind the others
read-last : (a : List ℕ) (v d : ℕ) → read_on v (a ++ (d ∷ [])) ≡ read_on v a * 10 + (d - 48)
read-last [] v d = refl
read-last (x ∷ a) v d = read-last a (v * 10 + (x - 48)) d

digit : (n : ℕ) → n < 10 → glyph n ≡ 48 + n
digit n h = rw (lt-ltb _ _ h)

alone : (n : ℕ) → n < 10 → Decimal n (glyph n ∷ [])
alone n h =
    let e : glyph n ≡ 48 + n = digit n h in
    rw e
    (record {
      value = omega arith;
      each = λ i k. let z : i ≡ 0 = omega arith in rw z (omega arith);
      some = omega arith;
      leading = λ o z. omega arith;
    })

-- one digit more
module _ (n d : ℕ) (a : List ℕ) (p : Decimal n a) (o : 0 < n) (h : d < 10) where
  each_more : (i : ℕ) → i < length (a ++ (glyph d ∷ []))
      → (48 ≤ get_or (a ++ (glyph d ∷ [])) i 0) × (get_or (a ++ (glyph d ∷ [])) i 0 ≤ 57)
  each_more i k =
      let e : glyph d ≡ 48 + d = digit d h in
      let m : length (a ++ (glyph d ∷ [])) ≡ length a + 1 = length-append a (glyph d ∷ []) in
      either (ltb i (length a))
      (λ t. let u : i < length a = ltb-true _ _ t in rw (get_or-append a (glyph d ∷ []) 0 i u) (p.each i u))
      (λ t.
      let z : i ≡ length a = let u : length a ≤ i = ltb-false _ _ t in omega arith in
      rw (z, get_or-append_seam a (glyph d) [] 0, e) (omega arith))

  one_more : Decimal (n * 10 + d) (a ++ (glyph d ∷ []))
  one_more =
      let e : glyph d ≡ 48 + d = digit d h in
      let m : length (a ++ (glyph d ∷ [])) ≡ length a + 1 = length-append a (glyph d ∷ []) in
      record {
        value = read-last a 0 (glyph d) ∙ (rw (p.value, e) (omega arith));
        each = each_more;
        some = omega arith;
        leading = λ _ z. p.leading o (sym (get_or-append a (glyph d ∷ []) 0 0 p.some) ∙ z);
      }

decimals : (k n : ℕ) → n < 10 ^ suc k → Decimal n (decimal_within k n)
unfolding decimal_within
decimals zero n h = alone n h
decimals (suc k) n h =
    let P : Bool → Type 0 = λ c. Decimal n
    (cond c (glyph n ∷ []) (decimal_within k (n / 10) ++ (glyph (n % 10) ∷ []))) in
    either (ltb n 10)
    (λ t. subst⁻¹ P t (alone n (ltb-true _ _ t)))
    (λ t.
    let u : 10 ≤ n = ltb-false _ _ t in
    let e : 10 ^ suc (suc k) ≡ 10 ^ suc k * 10 = pow-suc 10 (suc k) in
    let z : n / 10 * 10 + n % 10 ≡ n = omega arith in
    subst⁻¹ P t
    (rw z at (one_more (n / 10) (n % 10) (decimal_within k (n / 10)) (decimals k (n / 10) (omega arith)) (omega arith)
    (omega arith))))

pub decimal-reads : DecimalReads
decimal-reads n h = decimals 19 n (omega arith)
