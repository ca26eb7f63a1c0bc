use Rattle.explore.proofs.all.Search.+go_on.Given as goal

-- each call goes one step less far
abbrev pub decreases-go_on : goal.decreases-go_on
decreases-go_on g l = l.depth
