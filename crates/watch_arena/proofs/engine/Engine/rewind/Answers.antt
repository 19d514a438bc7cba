use Rattle.std.proofs.Common.{ℕ, subst, arith}
use Rattle.watch_arena.specs.Columns.{Caps}
use Rattle.watch_arena.proofs.AddedClause.{IsEngine-rewound, IsRewound-caps}
use Rattle.watch_arena.proofs.WatchVisit.{places_at_most}
use Rattle.watch_arena.proofs.engine.Engine.rewind.Goals as goal

pub returns-clause-sound : goal.returns-clause-sound
returns-clause-sound c =
    let low = c.min-self.ensures in
    IsEngine-rewound c.args.self.now c.args.place c.cap.new.self c.min-self.result c.requires (omega arith)
    (subst (λ (n : ℕ). Caps c.args.self.now.heads c.cap.new.self c.args.place n c.args.place) c.len-count.ensures c.cap.ensures)

pub returns-clause-rewound : goal.returns-clause-rewound
returns-clause-rewound c =
    let low = c.min-self.ensures in
    IsRewound-caps c.args.self.now c.args.place c.cap.new.self c.min-self.result c.requires (omega arith)
    (subst (λ (n : ℕ). Caps c.args.self.now.heads c.cap.new.self c.args.place n c.args.place) c.len-count.ensures c.cap.ensures)

pub cap-requires : goal.cap-requires
cap-requires c =
    let count = c.len-count.ensures in let heads = c.requires.heads in
    let most = places_at_most c.args.self.now.marks c.args.self.now.places.list c.args.self.now.variables c.requires.marked in
    omega arith
