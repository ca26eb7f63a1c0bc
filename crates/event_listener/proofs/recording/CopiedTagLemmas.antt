-- A notification that has one tag gives that tag and no other.
use Rattle.std.proofs.Common.{◌≡◌, ℕ, Bool, List, [], ◌∷◌, length, replicate, refl, ap, ◌∙◌, Result, Ok}
use Rattle.std.specs.declared.alloc.AllocError.{AllocError}
use Rattle.event_queue.specs.Queue.{Queue, after_telling}
use Rattle.event_queue.specs.Notify.{GivesTags, Tells}

module _ {T N : Type 0} (tag_of : N → T) where
  -- what it gives next, and that it stays
  abbrev pub GivesItsTag : N → Result T AllocError → N → Type 0
  GivesItsTag before answer after = (answer ≡ Ok (tag_of before)) × (after ≡ before)

  copies : (source : N) (tags : List T) (source' : N) → GivesTags GivesItsTag source tags source' → tags ≡ replicate (length tags) (tag_of source)
  copies source [] source' given = refl
  copies source (tag ∷ tags) source' given =
      let same : Ok tag ≡ Ok (tag_of source) = given.1.0 in
      let first : tag ≡ tag_of source = cc in
      let rest = copies given.0 tags source' given.2 in
      let stays : given.0 ≡ source = given.1.1 in
      ap (λ t. t ∷ tags) first ∙ ap (λ ts. tag_of source ∷ ts) (rest ∙ ap (λ s. replicate (length tags) (tag_of s)) stays)

  -- each listener told has that tag
  pub told_with_copies : {W : Type 0} (additional : Bool) (old : Queue T W) (source : N) (told : ℕ) (new : Queue T W) (source' : N)
      → Tells GivesItsTag additional old source told new source'
      → new ≡ after_telling additional (replicate told (tag_of source)) old
  told_with_copies additional old source told new source' tells =
      tells.queue ∙ ap (λ tags. after_telling additional tags old) (copies source tells.tags source' tells.given ∙ ap (λ n. replicate n (tag_of source)) tells.as_many)
