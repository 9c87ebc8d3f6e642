-- The same questions of a packet s and a block's index k: 1 to 6 and 9, then those of the block's view.
use Rattle.std.specs.Prelude.{ℕ, List, Ok, Err}
use Rattle.def_wire.specs.declared.Summary.{Summary}
use Rattle.def_wire.specs.declared.LongTime.{LongTime}
use Rattle.def_wire.specs.declared.Fields.{Fields}
use Rattle.def_refusals.specs.Answers.{Or, on_shown}
use Rattle.def_wire.specs.declared.Reading.{Reading}
use Rattle.def_wire.specs.declared.Rle.{Rle}
use Rattle.def_wire.specs.declared.Ranged.{Ranged}
use Rattle.def_wire.specs.Packet.{view_of}
use Rattle.def_wire.specs.Block.{fields_of, time_of}
use Rattle.def_wire.specs.Summary.{summary_of}
use Rattle.def_standard.specs.declared.Receipt.{Receipt}
use Rattle.def_standard.specs.declared.Echo.{Echo}
use Rattle.def_questions.specs.Questions.{words_shown, numbers_shown, pairs_shown, entries_shown}

unfoldable pub words_asked : Reading → List ℕ → ℕ → Rle → Or (List ℕ)
words_asked r s k a = on_shown (view_of r s k) (words_shown r a)

unfoldable pub numbers_asked : Reading → List ℕ → ℕ → Rle → Or (List ℕ)
numbers_asked r s k a = on_shown (view_of r s k) (numbers_shown r a)

unfoldable pub pairs_asked : Reading → List ℕ → ℕ → Or (List Receipt)
pairs_asked r s k = on_shown (view_of r s k) (pairs_shown r)

unfoldable pub entries_asked : Reading → List ℕ → ℕ → Or (List Echo)
entries_asked r s k = on_shown (view_of r s k) (entries_shown r)

abbrev pub on_view_fields : Or (List ℕ) → (List ℕ → Or Fields) → Or Fields
on_view_fields (Ok v) f = f v
on_view_fields (Err x) f = Err x

unfoldable pub fields_asked : Reading → List ℕ → ℕ → Ranged → Or Fields
fields_asked r s k g = on_view_fields (view_of r s k) (fields_of r g)

abbrev pub on_view_time : Or (List ℕ) → (List ℕ → Or LongTime) → Or LongTime
on_view_time (Ok v) f = f v
on_view_time (Err x) f = Err x

unfoldable pub time_asked : Reading → List ℕ → ℕ → Or LongTime
time_asked r s k = on_view_time (view_of r s k) (time_of r)

abbrev pub on_view_summary : Or (List ℕ) → (List ℕ → Or Summary) → Or Summary
on_view_summary (Ok v) f = f v
on_view_summary (Err x) f = Err x

unfoldable pub summary_asked : Reading → List ℕ → ℕ → Or Summary
summary_asked r s k = on_view_summary (view_of r s k) (summary_of r)
