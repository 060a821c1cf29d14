use Rattle.std.{proofs.Common.{◌≡◌, arith}, specs.List.{position_or_len}}
use Rattle.class_table.{proofs.LeastClass.{place_by_counts, none_past_counts}}
use Rattle.class_table.{proofs.layout.Layout.find.Goals.{After-from-number}, specs.Sizes.{serves}}
use Rattle.class_table.proofs.layout.Layout.find.Goals as goal

pub returns-then-granules-ge-COUNTS-clause-number : goal.returns-then-granules-ge-COUNTS-clause-number
returns-then-granules-ge-COUNTS-clause-number c = grind (arith, none_past_counts)

-- the count in the table is the place of the first class that serves
place : (c : After-from-number) → position_or_len (serves c.args.n) c.args.self.now.classes ≡ c.from-number.result
place c = grind (arith, place_by_counts)

pub returns-then-number-classes-clause-number : goal.returns-then-number-classes-clause-number
returns-then-number-classes-clause-number c = grind (arith, place)

pub returns-else-number-classes-clause-number : goal.returns-else-number-classes-clause-number
returns-else-number-classes-clause-number c = grind (arith, place)
