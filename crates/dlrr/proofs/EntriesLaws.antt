-- The laws of `entries_of`, entry by entry, and of its listing calls.
use Rattle.std.specs.Prelude.{Ok, Err}
use Prim.Native.Nat.{ℕ, ◌+◌, ◌-◌, ◌/◌, ◌≤◌, ◌<◌}
use mathlib.Core.Path.{◌≡◌, refl, ap, ◌∙◌}
use mathlib.Core.List.{List, [], ◌∷◌, map}
use native.Mathlib.Omega.{arith}
use lib.ListN.{length, drop, length-drop, length-map}
use Rattle.def_refusals.specs.declared.Refusal.{Refusal}
use Rattle.def_refusals.specs.declared.Refusal.TheVariants.{NoRoom}
use Rattle.def_refusals.specs.Answers.{Or, each}
use Rattle.laws.proofs.Answering.{answer-listed, answer-full, answer-refused, filled-listed, filled-full}
use Rattle.laws.proofs.Answering.{filled-refused}
use Rattle.def_wire.specs.declared.Reading.{Reading}
use Rattle.def_wire.specs.Packet.{locate, part}
use Rattle.def_wire.specs.Bytes.{be32, words32}
use Rattle.def_wire.specs.declared.Kind.TheVariants.{Echoes}
use Rattle.def_wire.specs.Block.{check_of}
use Rattle.def_standard.specs.declared.Echo.{Echo}
use Rattle.def_standard.specs.Standard.{echoes_of, entries_of}
use Rattle.def_questions.specs.Questions.{entries_shown, ListedEntries, least3}
use Rattle.def_questions.specs.Packets.{entries_asked}
use Rattle.utils.proofs.BytesLaws.{words32-cons, length-words32}
use Rattle.dlrr.specs.Entries.{echo_at, ssrc_in, last_in, delay_in, Stored}

-- from a place with twelve whole bytes behind it on
pub echoes-cons : (v : List ℕ) (at : ℕ) → at + 12 ≤ length v
    → echoes_of (words32 (drop at v)) ≡ echo_at v at ∷ echoes_of (words32 (drop (at + 12) v))
unfolding echoes_of
echoes-cons v at h =
    let e : at + 4 + 4 ≡ at + 8 = omega arith in
    let f : at + 8 + 4 ≡ at + 12 = omega arith in
    ap echoes_of (words32-cons v at (omega arith))
    ∙ ap (λ (l : List ℕ). echoes_of (be32 v at ∷ l)) (words32-cons v (at + 4) (omega arith))
    ∙ ap (λ (k : ℕ). echoes_of (be32 v at ∷ be32 v (at + 4) ∷ words32 (drop k v))) e
    ∙ ap (λ (l : List ℕ). echoes_of (be32 v at ∷ be32 v (at + 4) ∷ l)) (words32-cons v (at + 8) (omega arith))
    ∙ ap (λ (k : ℕ). echo_at v at ∷ echoes_of (words32 (drop k v))) f

length-echoes : (l : List ℕ) → length (echoes_of l) ≡ length l / 3
unfolding echoes_of
length-echoes [] = refl
length-echoes (a ∷ []) = refl
length-echoes (a ∷ b ∷ []) = refl
length-echoes (a ∷ b ∷ c ∷ l) = let h = length-echoes l in omega arith

-- so many entries are there
pub length-entries : (v : List ℕ) → length (entries_of v) ≡ (length v - 4) / 12
length-entries v =
    length-echoes (words32 (drop 4 v)) ∙ (rw (length-words32 (drop 4 v), length-drop 4 v)
    (let h : (length v - 4) / 4 / 3 ≡ (length v - 4) / 12 = omega arith in h))

-- ---- the ways in which a listing call ends
module _ (whole : Or (List Echo)) (ss ls ds : List ℕ) where
  pub entries-listed : (l : List Echo) (n : ℕ) (ss' ls' ds' : List ℕ) → whole ≡ Ok l → n ≡ length l
      → n ≤ least3 ss ls ds → Stored l ss ls ds ss' ls' ds'
      → ListedEntries whole ss ls ds (Ok n) ss' ls' ds'
  entries-listed l n ss' ls' ds' w e h s =
      let room : length l ≤ least3 ss ls ds = omega arith in
      record {
        answer = answer-listed whole (least3 ss ls ds) l n w e room;
        ssrcs = filled-listed (each ssrc_in whole) (least3 ss ls ds) ss (map ssrc_in l) ss' (ap (each ssrc_in) w)
            (rw (length-map l ssrc_in) room) s.ssrcs;
        lasts = filled-listed (each last_in whole) (least3 ss ls ds) ls (map last_in l) ls' (ap (each last_in) w)
            (rw (length-map l last_in) room) s.lasts;
        delays = filled-listed (each delay_in whole) (least3 ss ls ds) ds (map delay_in l) ds' (ap (each delay_in) w)
            (rw (length-map l delay_in) room) s.delays;
      }

  pub entries-full : (l : List Echo) (n room : ℕ) → whole ≡ Ok l → n ≡ length l → room ≡ least3 ss ls ds → room < n
      → ListedEntries whole ss ls ds (Err (NoRoom n room)) ss ls ds
  entries-full l n room w e k h =
      let short : least3 ss ls ds < length l = omega arith in
      record {
        answer = rw k (answer-full whole (least3 ss ls ds) l n w e (omega arith));
        ssrcs = filled-full (each ssrc_in whole) (least3 ss ls ds) ss (map ssrc_in l) (ap (each ssrc_in) w)
            (rw (length-map l ssrc_in) short);
        lasts = filled-full (each last_in whole) (least3 ss ls ds) ls (map last_in l) (ap (each last_in) w)
            (rw (length-map l last_in) short);
        delays = filled-full (each delay_in whole) (least3 ss ls ds) ds (map delay_in l) (ap (each delay_in) w)
            (rw (length-map l delay_in) short);
      }

  pub entries-refused : (x : Refusal) → whole ≡ Err x → ListedEntries whole ss ls ds (Err x) ss ls ds
  entries-refused x w =
      record {
        answer = answer-refused whole (least3 ss ls ds) x w;
        ssrcs = filled-refused (each ssrc_in whole) (least3 ss ls ds) ss x (ap (each ssrc_in) w);
        lasts = filled-refused (each last_in whole) (least3 ss ls ds) ls x (ap (each last_in) w);
        delays = filled-refused (each delay_in whole) (least3 ss ls ds) ds x (ap (each delay_in) w);
      }

-- ---- what is asked
pub entries-fine : (r : Reading) (v : List ℕ) → check_of r Echoes v ≡ Ok tt → entries_shown r v ≡ Ok (entries_of v)
unfolding entries_shown
entries-fine r v e = rw e

pub entries-unfit : (r : Reading) (v : List ℕ) (x : Refusal) → check_of r Echoes v ≡ Err x
    → entries_shown r v ≡ Err x
unfolding entries_shown
entries-unfit r v x e = rw e

pub entries-asked : (r : Reading) (s : List ℕ) (k at n : ℕ) → locate r s k ≡ Ok (at, n)
    → entries_shown r (part s at n) ≡ entries_asked r s k
unfolding entries_asked
entries-asked r s k at n e = rw e

-- a listing call's contract, of what is asked said otherwise
pub entries-as : {whole asked : Or (List Echo)} {ss ls ds ss' ls' ds' : List ℕ} {a : Or ℕ} → whole ≡ asked
    → ListedEntries whole ss ls ds a ss' ls' ds' → ListedEntries asked ss ls ds a ss' ls' ds'
entries-as e l = rw (← e) l

pub entries-missing : (r : Reading) (s : List ℕ) (k : ℕ) (x : Refusal) → locate r s k ≡ Err x
    → entries_asked r s k ≡ Err x
unfolding entries_asked
entries-missing r s k x e = rw e
