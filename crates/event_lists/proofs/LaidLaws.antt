-- The laws of events that are laid into four lists (def_portions, Lists): the one place that unfolds `laid_by`. Assumes
-- nothing.
--     laid-append, length-laid     events one after the other; the length is as it was
--     laid-front, sums-front       from the front on, item by item; of the fourth list three by three
--     laid-tags, laid-echoes, ..   events that are numbers, or entries
--     laid_none, and_then, ..      what calls leave that store events
use Prim.Native.Nat.{ℕ, suc, ◌+◌, ◌*◌}
use mathlib.Core.Path.{◌≡◌, refl, sym, ap, ◌∙◌}
use mathlib.Core.List.{List, [], ◌∷◌, ◌++◌, map}
use native.Mathlib.Nat.{add-zero}
use native.Mathlib.Omega.{arith}
use lib.ListN.{length, get_or, set, length-set, length-append, length-map}
use lib.Seq.{sets, length-sets}
use Rattle.def_wire.specs.Summary.{sums_of}
use Rattle.def_standard.specs.declared.Receipt.{Receipt}
use Rattle.def_standard.specs.declared.Echo.{Echo}
use Rattle.def_portions.specs.declared.Event.{Event}
use Rattle.def_portions.specs.declared.Event.TheVariants.{Header, Start, Ranged as RangedStart, Number, Pair}
use Rattle.def_portions.specs.declared.Event.TheVariants.{Entry, Time, Summed, End}
use Rattle.def_portions.specs.Lists.{Part, keeps, puts, tag_of, tag_part, number_part, value_part, put_at, laid_by, laid}
use Rattle.def_portions.specs.Lists.{sums_row, put_sums, laid_sums, room_in}
use Rattle.event_lists.specs.Laid.{Laid, number_tags}

-- ---- one list, however events are put into it

module _ (put : Event → ℕ → List ℕ → List ℕ) where
  -- events, and more behind them
  laid-append : (es fs : List Event) (n : ℕ) (l : List ℕ)
      → laid_by put (es ++ fs) n l ≡ laid_by put fs (n + length es) (laid_by put es n l)
  unfolding laid_by
  laid-append [] fs n l = ap (λ (k : ℕ). laid_by put fs k l) (sym (add-zero n))
  laid-append (e ∷ es) fs n l =
      let k : suc n + length es ≡ n + suc (length es) = omega arith in
      laid-append es fs (suc n) (put e n l) ∙ ap (λ (j : ℕ). laid_by put fs j (laid_by put es (suc n) (put e n l))) k

  -- the length is as it was, where each event leaves it so
  length-laid : ((e : Event) (n : ℕ) (l : List ℕ) → length (put e n l) ≡ length l) → (es : List Event) (n : ℕ)
      (l : List ℕ) → length (laid_by put es n l) ≡ length l
  unfolding laid_by
  length-laid same [] n l = refl
  length-laid same (e ∷ es) n l = length-laid same es (suc n) (put e n l) ∙ same e n l

  -- what stands before is as it was, where each event leaves it so
  laid-behind : (p : List ℕ) → ((e : Event) (n : ℕ) (l : List ℕ) → put e (suc n) (p ++ l) ≡ p ++ put e n l)
      → (es : List Event) (n : ℕ) (l : List ℕ) → laid_by put es (suc n) (p ++ l) ≡ p ++ laid_by put es n l
  unfolding laid_by
  laid-behind p same [] n l = refl
  laid-behind p same (e ∷ es) n l =
      ap (laid_by put es (suc (suc n))) (same e n l) ∙ laid-behind p same es (suc n) (put e n l)

  -- events that put nothing
  laid-nothing : {A : Type 0} (f : A → Event) → ((x : A) (n : ℕ) (l : List ℕ) → put (f x) n l ≡ l) → (xs : List A)
      (n : ℕ) (l : List ℕ) → laid_by put (map f xs) n l ≡ l
  unfolding laid_by
  laid-nothing f none [] n l = refl
  laid-nothing f none (x ∷ xs) n l =
      ap (laid_by put (map f xs) (suc n)) (none x n l) ∙ laid-nothing f none xs (suc n) l

-- ---- a list of one item for each event

length-put : (p : Part) (n : ℕ) (l : List ℕ) → length (put_at p n l) ≡ length l
length-put keeps n l = refl
length-put (puts x) n l = length-set l n x

-- an item after a part was put there
abbrev pub item_after : Part → ℕ → ℕ
item_after keeps x = x
item_after (puts y) x = y

put_front : (p : Part) (x : ℕ) (l : List ℕ) → put_at p 0 (x ∷ l) ≡ item_after p x ∷ l
put_front keeps x l = refl
put_front (puts y) x l = refl

put-behind : (p : Part) (n x : ℕ) (l : List ℕ) → put_at p (suc n) (x ∷ l) ≡ x ∷ put_at p n l
put-behind keeps n x l = refl
put-behind (puts y) n x l = refl

pub laid-front : (part : Event → Part) (e : Event) (es : List Event) (x : ℕ) (l : List ℕ)
    → laid part (e ∷ es) 0 (x ∷ l) ≡ item_after (part e) x ∷ laid part es 0 l
unfolding laid_by
laid-front part e es x l =
    ap (laid part es 1) (put_front (part e) x l)
    ∙ laid-behind (λ f. put_at (part f)) (item_after (part e) x ∷ [])
    (λ f n m. put-behind (part f) n (item_after (part e) x) m) es 0 l

-- ---- the fourth list, of three items for each event

length-put-sums : (e : Event) (n : ℕ) (l : List ℕ) → length (put_sums e n l) ≡ length l
unfolding put_sums
length-put-sums (Header x ssrc) n l = refl
length-put-sums (Start type x) n l = refl
length-put-sums (RangedStart type x f) n l = refl
length-put-sums (Number x) n l = refl
length-put-sums (Pair r) n l = refl
length-put-sums (Entry e) n l = refl
length-put-sums (Time t) n l = refl
length-put-sums (Summed s) n l = length-sets l (3 * n) (sums_row (sums_of s))
length-put-sums End n l = refl

-- what an event puts at each of its three
unfoldable pub sum_part : ℕ → Event → Part
sum_part i (Header x ssrc) = keeps
sum_part i (Start type x) = keeps
sum_part i (RangedStart type x f) = keeps
sum_part i (Number x) = keeps
sum_part i (Pair r) = keeps
sum_part i (Entry e) = keeps
sum_part i (Time t) = keeps
sum_part i (Summed s) = puts (get_or (sums_row (sums_of s)) i 0)
sum_part i End = keeps

abbrev pub sum_after : ℕ → Event → ℕ → ℕ
sum_after i e x = item_after (sum_part i e) x

put-sums-front : (e : Event) (a b c : ℕ) (l : List ℕ)
    → put_sums e 0 (a ∷ b ∷ c ∷ l) ≡ sum_after 0 e a ∷ sum_after 1 e b ∷ sum_after 2 e c ∷ l
unfolding put_sums sum_part
put-sums-front (Header x ssrc) a b c l = refl
put-sums-front (Start type x) a b c l = refl
put-sums-front (RangedStart type x f) a b c l = refl
put-sums-front (Number x) a b c l = refl
put-sums-front (Pair r) a b c l = refl
put-sums-front (Entry e) a b c l = refl
put-sums-front (Time t) a b c l = refl
put-sums-front (Summed s) a b c l = refl
put-sums-front End a b c l = refl

put-sums-behind : (a b c : ℕ) (e : Event) (n : ℕ) (l : List ℕ)
    → put_sums e (suc n) (a ∷ b ∷ c ∷ l) ≡ a ∷ b ∷ c ∷ put_sums e n l
unfolding put_sums
put-sums-behind a b c (Header x ssrc) n l = refl
put-sums-behind a b c (Start type x) n l = refl
put-sums-behind a b c (RangedStart type x f) n l = refl
put-sums-behind a b c (Number x) n l = refl
put-sums-behind a b c (Pair r) n l = refl
put-sums-behind a b c (Entry e) n l = refl
put-sums-behind a b c (Time t) n l = refl
put-sums-behind a b c (Summed s) n l = let e : 3 * suc n ≡ suc (suc (suc (3 * n))) = omega arith in rw e
put-sums-behind a b c End n l = refl

pub sums-front : (e : Event) (es : List Event) (a b c : ℕ) (l : List ℕ)
    → laid_sums (e ∷ es) 0 (a ∷ b ∷ c ∷ l) ≡ sum_after 0 e a ∷ sum_after 1 e b ∷ sum_after 2 e c ∷ laid_sums es 0 l
unfolding laid_by
sums-front e es a b c l =
    ap (laid_sums es 1) (put-sums-front e a b c l)
    ∙ laid-behind put_sums (sum_after 0 e a ∷ sum_after 1 e b ∷ sum_after 2 e c ∷ [])
    (put-sums-behind (sum_after 0 e a) (sum_after 1 e b) (sum_after 2 e c)) es 0 l

-- ---- events that are numbers

-- their tags are all the same
pub laid-tags : (xs : List ℕ) (n : ℕ) (l : List ℕ)
    → laid tag_part (map Number xs) n l ≡ sets l n (number_tags (length xs))
unfolding laid_by tag_of
laid-tags [] n l = refl
laid-tags (x ∷ xs) n l = laid-tags xs (suc n) (set l n 4)

pub laid-numbers : (xs : List ℕ) (n : ℕ) (l : List ℕ) → laid number_part (map Number xs) n l ≡ sets l n xs
unfolding laid_by number_part
laid-numbers [] n l = refl
laid-numbers (x ∷ xs) n l = laid-numbers xs (suc n) (set l n x)

-- they have no values, and nothing in the fourth list
laid-values : (xs : List ℕ) (n : ℕ) (l : List ℕ) → laid value_part (map Number xs) n l ≡ l
unfolding value_part
laid-values = laid-nothing (λ e. put_at (value_part e)) Number (λ x n l. refl)

laid-sums : (xs : List ℕ) (n : ℕ) (l : List ℕ) → laid_sums (map Number xs) n l ≡ l
unfolding put_sums
laid-sums = laid-nothing put_sums Number (λ x n l. refl)

-- ---- events that are entries

-- they have no numbers, and nothing in the fourth list
laid-echoes : (xs : List Echo) (n : ℕ) (l : List ℕ) → laid number_part (map Entry xs) n l ≡ l
unfolding number_part
laid-echoes = laid-nothing (λ e. put_at (number_part e)) Entry (λ x n l. refl)

echo-sums : (xs : List Echo) (n : ℕ) (l : List ℕ) → laid_sums (map Entry xs) n l ≡ l
unfolding put_sums
echo-sums = laid-nothing put_sums Entry (λ x n l. refl)

-- ---- events that are pairs

-- they have nothing in the fourth list
pair-sums : (xs : List Receipt) (n : ℕ) (l : List ℕ) → laid_sums (map Pair xs) n l ≡ l
unfolding put_sums
pair-sums = laid-nothing put_sums Pair (λ x n l. refl)

-- ---- what calls leave

-- nothing was stored
pub laid_none : {n : ℕ} {t u v w : List ℕ} → Laid [] n t u v w t u v w n
unfolding laid_by
laid_none {n} = record { tags = refl; numbers = refl; values = refl; sums = refl; past = sym (add-zero n) }

pub and_then : {es fs : List Event} {n n1 n2 : ℕ} {t u v w t1 u1 v1 w1 t2 u2 v2 w2 : List ℕ}
    → Laid es n t u v w t1 u1 v1 w1 n1 → Laid fs n1 t1 u1 v1 w1 t2 u2 v2 w2 n2
    → Laid (es ++ fs) n t u v w t2 u2 v2 w2 n2
and_then {es} {fs} {n} {n1} {n2} {t} {u} {v} {w} p q =
    record {
      tags = q.tags ∙ (rw (p.tags, p.past) (sym (laid-append (λ e. put_at (tag_part e)) es fs n t)));
      numbers = q.numbers ∙ (rw (p.numbers, p.past) (sym (laid-append (λ e. put_at (number_part e)) es fs n u)));
      values = q.values ∙ (rw (p.values, p.past) (sym (laid-append (λ e. put_at (value_part e)) es fs n v)));
      sums = q.sums ∙ (rw (p.sums, p.past) (sym (laid-append put_sums es fs n w)));
      past = rw (length-append es fs) (omega (arith, p.past, q.past));
    }

-- the events are known under another name
pub laid_as : {es fs : List Event} {n n1 : ℕ} {t u v w t1 u1 v1 w1 : List ℕ} → es ≡ fs
    → Laid es n t u v w t1 u1 v1 w1 n1 → Laid fs n t u v w t1 u1 v1 w1 n1
laid_as e p = rw (← e) p

-- the lengths are as they were
module _ {es : List Event} {n n1 : ℕ} {t u v w t1 u1 v1 w1 : List ℕ} (p : Laid es n t u v w t1 u1 v1 w1 n1) where
  pub same-tags : length t1 ≡ length t
  same-tags = ap length p.tags ∙ length-laid (λ e. put_at (tag_part e)) (λ e. length-put (tag_part e)) es n t

  pub same_numbers : length u1 ≡ length u
  same_numbers =
      ap length p.numbers ∙ length-laid (λ e. put_at (number_part e)) (λ e. length-put (number_part e)) es n u

  pub same-values : length v1 ≡ length v
  same-values = ap length p.values ∙ length-laid (λ e. put_at (value_part e)) (λ e. length-put (value_part e)) es n v

  pub same-sums : length w1 ≡ length w
  same-sums = ap length p.sums ∙ length-laid put_sums length-put-sums es n w

  -- and so the room
  pub same-room : room_in t1 u1 v1 w1 ≡ room_in t u v w
  same-room = rw (same-tags, same_numbers, same-values, same-sums)

-- numbers were stored: in two lists
pub laid_word : (xs : List ℕ) {n n1 : ℕ} {t u v w t1 u1 : List ℕ} → t1 ≡ laid tag_part (map Number xs) n t
    → u1 ≡ laid number_part (map Number xs) n u → n1 ≡ n + length xs → Laid (map Number xs) n t u v w t1 u1 v w n1
laid_word xs {n} {v = v} {w = w} e f g =
    record {
      tags = e;
      numbers = f;
      values = sym (laid-values xs n v);
      sums = sym (laid-sums xs n w);
      past = rw (length-map xs Number) g;
    }

-- entries were stored: in two lists
pub laid-entries : (xs : List Echo) {n n1 : ℕ} {t u v w t1 v1 : List ℕ} → t1 ≡ laid tag_part (map Entry xs) n t
    → v1 ≡ laid value_part (map Entry xs) n v → n1 ≡ n + length xs → Laid (map Entry xs) n t u v w t1 u v1 w n1
laid-entries xs {n} {u = u} {w = w} e f g =
    record {
      tags = e;
      numbers = sym (laid-echoes xs n u);
      values = f;
      sums = sym (echo-sums xs n w);
      past = rw (length-map xs Entry) g;
    }

-- pairs were stored: in three lists
pub laid-pairs : (xs : List Receipt) {n n1 : ℕ} {t u v w t1 u1 v1 : List ℕ} → t1 ≡ laid tag_part (map Pair xs) n t
    → u1 ≡ laid number_part (map Pair xs) n u → v1 ≡ laid value_part (map Pair xs) n v → n1 ≡ n + length xs
    → Laid (map Pair xs) n t u v w t1 u1 v1 w n1
laid-pairs xs {n} {w = w} d e f g =
    record { tags = d; numbers = e; values = f; sums = sym (pair-sums xs n w); past = rw (length-map xs Pair) g }

-- one event was stored, known by its parts
pub laid_one : {e f : Event} {n : ℕ} {t u v w t1 u1 v1 w1 : List ℕ} → e ≡ f → t1 ≡ put_at (tag_part f) n t
    → u1 ≡ put_at (number_part f) n u → v1 ≡ put_at (value_part f) n v → w1 ≡ put_sums f n w
    → Laid (e ∷ []) n t u v w t1 u1 v1 w1 (n + 1)
unfolding laid_by
laid_one e p q r s = rw e (record { tags = p; numbers = q; values = r; sums = s; past = refl })
