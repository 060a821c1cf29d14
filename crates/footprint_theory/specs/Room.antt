-- Regions with room for a timeline.
use Rattle.std.specs.Prelude.{ℕ, ◌+◌, ◌*◌, ◌/◌, ◌≤◌, max, List, [], ◌∷◌, length, All}
use Rattle.class_table.specs.{Layout.{Partition, share_of}, Sizes.{granule_bytes}}
use Rattle.tuner_theory.specs.{Footprint.{blocks}, Histories.{most}, Timelines.{moments}, declared.size_event.SizeEvent.{SizeEvent}}

-- The slots that a class needs: one for each block of it that is live at a moment, and for each that a quarantine of this limit may hold.
abbrev pub slots_needed : List ℕ → ℕ → List SizeEvent → ℕ → ℕ
slots_needed classes limit events class = most (blocks classes class) (moments events) + limit / (granule_bytes * class)

-- Each class has the slots that it needs.
abbrev pub HasRoom : Partition → ℕ → List SizeEvent → Type 0
HasRoom layout limit events = All (λ class. slots_needed layout.classes limit events class ≤ share_of layout / class) layout.classes

abbrev pub greatest_of : (ℕ → ℕ) → List ℕ → ℕ
greatest_of measure [] = 0
greatest_of measure (class ∷ classes) = max (measure class) (greatest_of measure classes)

-- The granules that suffice: for each class as many as the class that needs most.
abbrev pub granules_needed : List ℕ → ℕ → List SizeEvent → ℕ
granules_needed classes limit events = length classes * greatest_of (λ class. class * slots_needed classes limit events class) classes
