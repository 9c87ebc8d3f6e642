-- One entry of a DLRR block, and what storing a list of them leaves in three lists (private).
use Rattle.std.specs.Prelude.{ℕ, ◌+◌, ◌≡◌, List, ◌++◌, map, length, drop}
use Rattle.def_wire.specs.Bytes.{be32}
use Rattle.def_standard.specs.declared.Echo.{Echo}

abbrev pub echo_at : List ℕ → ℕ → Echo
echo_at v at = record { ssrc = be32 v at; last = record { 0 = be32 v (at + 4) }; delay = record { 0 = be32 v (at + 8) } }

abbrev pub ssrc_in : Echo → ℕ
ssrc_in e = e.ssrc

abbrev pub last_in : Echo → ℕ
last_in e = e.last.0

abbrev pub delay_in : Echo → ℕ
delay_in e = e.delay.0

-- the list's parts in front of each list's old contents
pub record Stored (whole : List Echo) (ss ls ds ss' ls' ds' : List ℕ) : Type 0 where
  pub ssrcs : ss' ≡ map ssrc_in whole ++ drop (length (map ssrc_in whole)) ss
  pub lasts : ls' ≡ map last_in whole ++ drop (length (map last_in whole)) ls
  pub delays : ds' ≡ map delay_in whole ++ drop (length (map delay_in whole)) ds
