use Rattle.point_pool.proofs.cursor.Cursor.avoids_if_there.Goals as goal

pub returns : goal.returns
returns c = λ avoids _. c.avoids_pairs_of.ensures avoids
