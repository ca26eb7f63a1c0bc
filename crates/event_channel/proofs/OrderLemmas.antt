-- Messages are received in the order in which they were sent.
use Rattle.std.proofs.Common.{◌≡◌, List, [], ◌∷◌, ◌++◌, sym, ap, ◌∙◌}
use Rattle.std.specs.List.{FoldsTo}
use Rattle.std.proofs.lemmas.List.{append-nil, append_assoc}
use Rattle.event_channel.specs.Order.{Moves, all_sent, all_received}

-- one more call at the front of many
pub in_order : {T : Type 0} (before after : List T) (moves : List (List T × List T)) → FoldsTo Moves before moves after → before ++ all_sent moves ≡ all_received moves ++ after
in_order before after [] h = append-nil before ∙ h
in_order before after (moved ∷ moves) h =
    sym (append_assoc before moved.0 (all_sent moves))
    ∙ ap (λ xs. xs ++ all_sent moves) h.1
    ∙ append_assoc moved.1 h.0 (all_sent moves)
    ∙ ap (λ xs. moved.1 ++ xs) (in_order h.0 after moves h.2)
    ∙ sym (append_assoc moved.1 (all_received moves) after)
