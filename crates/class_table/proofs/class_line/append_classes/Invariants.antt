use Rattle.std.proofs.Common.{◌≡◌, ◌+◌, ◌*◌, ◌≤◌, length, take}
use Rattle.class_table.specs.ClassLine.{class_line}
use Rattle.class_table.proofs.class_line.append_classes.Given as goal

abbrev pub invariant-loop-class : goal.invariant-loop-class
invariant-loop-class l = record {
  written : l.line.items ≡ class_line (take l.class-index l.classes);
  room : length l.line.items ≤ 7 + 5 * l.class-index;
}
