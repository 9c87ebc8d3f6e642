-- No second answer satisfies the contract of a public function over `Reader`, as rattle reads it from src/.
-- Such a contract is a clause and no relation: `F-says` is what equations it states, `F-unique` that they leave one
-- answer.
use Prim.Native.Nat.{ℕ}
use mathlib.Core.Path.{◌≡◌, refl, sym, ◌∙◌}
use mathlib.Core.List.{List}
use seplogic.Ra.Ura.{Ura}
use base.Logic.{SProp}
use prog.Memory.{Memory}
use prog.Routine.{Routine}
use types.Logic.{Logic}
use contract.Lifetimes.{Lfts}
use contract.Monad.{Fun, fact}
use denote.Ref.{Bor}
use denote.Triple.Clauses.{AtExit}
use Rattle.def_wire.specs.declared.Reading.{Reading}
use Rattle.def_wire.specs.Packet.{next_place}
use Rattle.reader.specs.declared.Reader.{Reader}
use Rattle.reader.proofs.Held.{Stands, Shows}
use Rattle.reader.specs.contracts.new as new
use Rattle.reader.specs.contracts.moved as moved
use Rattle.reader.specs.contracts.view as view

module _ {M : Type 1} {𝓤 : Ura M} (𝓛 : Logic 𝓤) (mem : Memory → SProp 𝓤) (run : Routine → Fun 𝓤)
    (κs : Lfts 1) where
  pub new-says : (s : Bor (List ℕ)) (r : Reader) (e : AtExit new.ended κs)
      → (new.clauses 𝓛 mem run κs (s, tt)).ensures tt r e ≡ fact 𝓤 (Stands s 8 r)
  new-says s r e = refl

  pub moved-says : (d r : Reader) (e : AtExit moved.ended κs)
      → (moved.clauses 𝓛 mem run κs (d, tt)).ensures tt r e
      ≡ fact 𝓤 (Stands d.packet (next_place d.packet.now d.at) r)
  moved-says d r e = refl

  pub view-says : (d : Reader) (g : Reading) (v : Bor (List ℕ)) (e : AtExit view.ended κs)
      → (view.clauses 𝓛 mem run κs (d, (g, tt))).ensures tt v e ≡ fact 𝓤 (Shows g d.packet d.at v)
  view-says d g v e = refl

-- of `new` and `moved`
pub stands-unique : (s : Bor (List ℕ)) (at : ℕ) (r₁ r₂ : Reader) → Stands s at r₁ → Stands s at r₂ → r₁ ≡ r₂
stands-unique s at r₁ r₂ p q = λ i. record { packet = (p.0 ∙ sym q.0) i; at = (p.1 ∙ sym q.1) i }

-- of `view`
pub view-unique : (g : Reading) (s : Bor (List ℕ)) (at : ℕ) (v₁ v₂ : Bor (List ℕ)) → Shows g s at v₁ → Shows g s at v₂
    → (v₁.now ≡ v₂.now) × (v₁.ref_ptr ≡ v₂.ref_ptr)
view-unique g s at v₁ v₂ p q = (p.0 ∙ sym q.0, p.1 ∙ sym q.1)
