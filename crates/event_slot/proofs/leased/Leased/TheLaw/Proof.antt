-- A `&` to it holds nothing. Assumes `Logic`.
use base.Fraction.{full_share}
use denote.RattleType.{RattleType}
use denote.Memory.{part_at}
use denote.Param.Laws.{Laws}
use denote.SharingLaws.{nothing_shr_laws}
use denote.Struct.Lending.{Lends-nothing}
use Rattle.std.specs.declared.alloc.Allocator.{Ghosts}
use Rattle.event_slot.specs.contracts.leased.Leased as C
use Rattle.event_slot.proofs.leased.Leased.TheLaw.Statement.{statement}

pub shares : (T A : RattleType) (g : Ghosts A.Denot) (L : Laws T) (K : Laws A) → statement T A g L K
shares T A g L K = record {
  shr_laws = λ d b o. nothing_shr_laws;
  shares = λ M 𝓤 𝓛 d κ ts b o. Lends-nothing 𝓛 (part_at (C.the_written T A g) full_share d b o) (C.the_written T A g).lives κ ts;
}
