-- The contracts of the exported calls that list: those of the calls that they copy, their answers flat.
use Rattle.std.specs.Prelude.{ℕ, min, ◌≡◌, List, length}
use Rattle.def_refusals.specs.Answers.{Or, each, answer_of, filled_of}
use Rattle.def_wire.specs.declared.Reading.TheVariants.{Standard}
use Rattle.def_wire.specs.Packet.{view_of}
use Rattle.def_standard.specs.declared.Receipt.{Receipt}
use Rattle.def_standard.specs.declared.Echo.{Echo}
use Rattle.def_questions.specs.Questions.{least3}
use Rattle.def_cursor.specs.declared.Cursor.{Cursor}
use Rattle.def_cursor.specs.Cursor.{advance_by, filled_by, on_view_advanced, on_view_filled}
use Rattle.def_portions.specs.Lists.{tag_part, number_part, value_part, laid, laid_sums, room_in}
use Rattle.states.specs.declared.Portions.{Portions}
use Rattle.states.specs.Call.{followed_of, given_of}
use Rattle.flat.specs.declared.Flat.{Flat}
use Rattle.flat.specs.declared.FlatFollowed.{FlatFollowed}
use Rattle.flat.specs.declared.FlatStretch.{FlatStretch}
use Rattle.flat.specs.Flat.{flat_of, flat_stretch, flat_followed}

-- the contract of a call that lists into one lent list: def_refusals' `Listed`, its answer flat
pub record FlatListed (whole : Or (List ℕ)) (out : List ℕ) (r : Flat) (out' : List ℕ) : Type 0 where
  pub answer : r ≡ flat_of (answer_of whole (length out))
  pub filled : out' ≡ filled_of whole (length out) out

-- def_questions' `ListedPairs`
pub record FlatPairs (whole : Or (List Receipt)) (ns ts : List ℕ) (r : Flat) (ns' ts' : List ℕ) : Type 0 where
  pub answer : r ≡ flat_of (answer_of whole (min (length ns) (length ts)))
  pub numbers : ns' ≡ filled_of (each (λ x. x.number) whole) (min (length ns) (length ts)) ns
  pub times : ts' ≡ filled_of (each (λ x. x.time.0) whole) (min (length ns) (length ts)) ts

-- def_questions' `ListedEntries`
pub record FlatEntries (whole : Or (List Echo)) (ss ls ds : List ℕ) (r : Flat) (ss' ls' ds' : List ℕ) : Type 0 where
  pub answer : r ≡ flat_of (answer_of whole (least3 ss ls ds))
  pub ssrcs : ss' ≡ filled_of (each (λ x. x.ssrc) whole) (least3 ss ls ds) ss
  pub lasts : ls' ≡ filled_of (each (λ x. x.last.0) whole) (least3 ss ls ds) ls
  pub delays : ds' ≡ filled_of (each (λ x. x.delay.0) whole) (least3 ss ls ds) ds

-- def_cursor's `StretchedBy`
pub record FlatStretched (s : List ℕ) (k t : ℕ) (c : Cursor) (budget : ℕ) (out : List ℕ) (r : FlatStretch)
    (out' : List ℕ) : Type 0 where
  pub answer : r ≡ flat_stretch (on_view_advanced (view_of Standard s k) (λ v. advance_by t v c budget (length out)))
  pub filled : out' ≡ on_view_filled (view_of Standard s k) (λ v. filled_by t v c budget out) out

-- states' `Following`
pub record FlatFollowing (st : Portions) (x t u v w : List ℕ) (r : FlatFollowed) (t' u' v' w' : List ℕ) : Type 0 where
  pub answer : r ≡ flat_followed (followed_of st x (room_in t u v w))
  pub tags : t' ≡ laid tag_part (given_of st x (room_in t u v w)) 0 t
  pub numbers : u' ≡ laid number_part (given_of st x (room_in t u v w)) 0 u
  pub values : v' ≡ laid value_part (given_of st x (room_in t u v w)) 0 v
  pub sums : w' ≡ laid_sums (given_of st x (room_in t u v w)) 0 w
