-- The token of an `Arc` and those of the types give one of the lifetime for which the claim in it holds, and come back. Assumes `Logic`.
use Rattle.event_slot.proofs.Names.{ℕ, [], ◌∷◌, ◌++◌, Ura, ent, sep, wand, ex, apply∗, Lft, Share, Incl, ⊑_meet, meet_⊑_left, meet_⊑_right, Incl-trans, flft, Logic, ‵, raw, ◌⊛◌, ◌$◌, ◌∵◌, !, qed, move, split, show, frame, assume, use1, use2, done}
use base.FractionLaws.{common}
use ghost.Rules.{thinned}
use types.Tokens.{lft-common}

module _ {M : Type 1} {𝓤 : Ura M} (𝓛 : Logic 𝓤) (a : ℕ) (τ χ σ : Lft) (s q r u : Share) where
  open 𝓛 use {A}

  abbrev pub Four : base.Logic.SProp 𝓤
  Four = sep 𝓤 (A.lft (a ∷ []) s) (sep 𝓤 (A.lft τ q) (sep 𝓤 (A.lft χ r) (A.lft σ u)))

  module _ (ρ : Lft) (inc : Incl (τ ++ (χ ++ σ)) ρ) where
    abbrev pub Lived : Share → base.Logic.SProp 𝓤
    Lived v = sep 𝓤 (A.lft (a ∷ ρ) v) (wand 𝓤 (A.lft (a ∷ ρ) v) Four)

    pub lived : ent 𝓤 Four (ex 𝓤 Lived)
    lived =
        let α : Lft = a ∷ [] in let β : Lft = a ∷ ρ in let two : Lft = χ ++ σ in let three : Lft = τ ++ two in let four : Lft = α ++ three in
        let m : Share = (common r u).0 in let n : Share = (common q m).0 in let k : Share = (common s n).0 in let v : Share = thinned β k in
        let last = sep 𝓤 (A.lft χ r) (A.lft σ u) in let later' = sep 𝓤 (A.lft τ q) (A.lft two m) in let first' = sep 𝓤 (A.lft α s) (A.lft three n) in
        qed 𝓛 (‵ (flft α s) ∷ ‵ (flft τ q) ∷ ‵ (flft χ r) ∷ ‵ (flft σ u) ∷ []) ∵
        move ! (2 ∷ 3 ∷ []) $ use2 𝓛 (‵ (flft two m) ⊛ raw (wand 𝓤 (A.lft two m) last)) (lft-common 𝓛 χ σ r u) $ split ! $
        move ! (3 ∷ 0 ∷ []) $ use2 𝓛 (‵ (flft three n) ⊛ raw (wand 𝓤 (A.lft three n) later')) (lft-common 𝓛 τ two q m) $ split ! $
        move ! (3 ∷ 0 ∷ []) $ use2 𝓛 (‵ (flft four k) ⊛ raw (wand 𝓤 (A.lft four k) first')) (lft-common 𝓛 α three s n) $ split ! $
        use1 𝓛 (‵ (flft β v) ⊛ raw (wand 𝓤 (A.lft β v) (A.lft four k))) (𝓛.lfts.lft-incl four β k (⊑_meet four α ρ (meet_⊑_left α three) (Incl-trans (meet_⊑_right α three) inc))) $ split ! $
        show ! Lived v $ frame ! $ assume ! (‵ (flft β v)) $ use2 𝓛 (‵ (flft four k)) (apply∗ 𝓤 (A.lft β v) (A.lft four k)) $
        use2 𝓛 (‵ (flft α s) ⊛ ‵ (flft three n)) (apply∗ 𝓤 (A.lft four k) first') $ split ! $ move ! (1 ∷ 2 ∷ []) $
        use2 𝓛 (‵ (flft τ q) ⊛ ‵ (flft two m)) (apply∗ 𝓤 (A.lft three n) later') $ split ! $ move ! (1 ∷ 3 ∷ []) $
        use2 𝓛 (‵ (flft χ r) ⊛ ‵ (flft σ u)) (apply∗ 𝓤 (A.lft two m) last) $ split ! $ move ! (3 ∷ 2 ∷ 0 ∷ 1 ∷ []) $ done !

-- lifetimes within those of the types
pub within_types : (τ χ σ t x s : Lft) → Incl τ t → Incl χ x → Incl σ s → Incl (τ ++ (χ ++ σ)) (t ++ (x ++ s))
within_types τ χ σ t x s lt lx ls = let two : Lft = χ ++ σ in let μ : Lft = τ ++ two in let down : Incl μ two = meet_⊑_right τ two in
    ⊑_meet μ t (x ++ s) (Incl-trans (meet_⊑_left τ two) lt) (⊑_meet μ x s (Incl-trans down (Incl-trans (meet_⊑_left χ σ) lx)) (Incl-trans down (Incl-trans (meet_⊑_right χ σ) ls)))
