-- From `new` by `moved` the reader comes to each block in turn, and its view there is that block's. Assumes nothing.
use Prim.Native.Nat.{ℕ}
use mathlib.Core.List.{List}
use denote.Ref.{Bor}
use Rattle.reader.specs.declared.Reader.{Reader}
use Rattle.reader.proofs.ReaderLaws.{reached-view}
use Rattle.reader.proofs.ReaderLaws as laws
use Rattle.claims.specs.Walk.{Reached, begun, stepped, ReaderShows}

by-moves : {s : Bor (List ℕ)} {k : ℕ} {r : Reader} → Reached s k r → laws.Reached s k r
by-moves (begun e) = e
by-moves (stepped {k} {d} {r} h e) = (d, (by-moves h, e))

pub reader-shows : ReaderShows
reader-shows g s n c k r h l v e = reached-view g s n c k r (by-moves h) v l e
