-- One turn of the loops over some bytes.
--     WholeAt         at an index the r bytes of a whole block begin, with no run of no length among its words, and the
--                     state s is before it
--     Turned          from an index on, m bytes first: their events es, and the state st behind them
--     TurnCounted     a turn whose events are counted
--     TurnStored      a turn whose events are stored in four lists from index n on
use Rattle.std.specs.Prelude.{ℕ, ◌+◌, ◌≤◌, ◌<◌, ◌≡◌, List, ◌++◌, length, drop, Ok}
use Rattle.def_wire.specs.Bytes.{byte_at}
use Rattle.def_wire.specs.Packet.{part}
use Rattle.def_wire.specs.Block.{type_of, block_length, kind_of}
use Rattle.def_portions.specs.declared.Event.{Event}
use Rattle.def_portions.specs.Events.{block_fault, lost_fault}
use Rattle.event_lists.specs.Laid.{Laid}
use Rattle.states.specs.declared.Portions.{Portions}
use Rattle.states.specs.Steps.{state, block, after, shows}
use Rattle.portions.specs.declared.Turn.{Turn}

pub record WholeAt (s : Portions) (x : List ℕ) (at r : ℕ) : Type 0 where
  pub fresh : s ≡ state block 4 0 0 s.behind s.known
  pub some : 4 ≤ r
  pub fits : at + r ≤ length x
  pub bytes : (i : ℕ) → byte_at (part x at r) i < 256
  pub long : block_length (part x at r) ≡ r
  pub fine : block_fault (s.behind + 4) (part x at r) ≡ Ok tt
  pub clear : lost_fault (kind_of (type_of (part x at r))) (part x at r) ≡ Ok tt

pub record Turned (s : Portions) (x : List ℕ) (at : ℕ) (es : List Event) (st : Portions) (m : ℕ) : Type 0 where
  pub some : 0 < m
  pub fits : at + m ≤ length x
  pub behind : after s (drop at x) ≡ after st (drop (at + m) x)
  pub first : shows s (drop at x) ≡ es ++ shows st (drop (at + m) x)

pub record TurnCounted (s : Portions) (x : List ℕ) (at : ℕ) (r : Turn) : Type 0 where
  pub shown : List Event
  pub turn : Turned s x at shown r.state r.taken
  pub events : r.events ≡ length shown

pub record TurnStored (s : Portions) (x : List ℕ) (at n : ℕ) (t u v w : List ℕ) (r : Turn) (t' u' v' w' : List ℕ)
    : Type 0 where
  pub shown : List Event
  pub turn : Turned s x at shown r.state r.taken
  pub stored : Laid shown n t u v w t' u' v' w' r.events
