-- The numbers of a register, and what a call may know of a rule memory.
use Rattle.std.specs.Prelude.{ℕ, List, Option}
use Rattle.memory.specs.Holding.{Held}
use Rattle.plan.specs.ByTag.{on}
use Rattle.model.specs.declared.order.Order.{Order}
use Rattle.switch.specs.declared.change.Change.{Change}
use Rattle.switch.specs.declared.register.Register.{Register}

-- A change: its order, the weights that it brings, how many steps it has and how many are left.
pub record Underway : Type 0 where
  pub order : Order
  pub weights : List (Option ℕ)
  pub steps : ℕ
  pub left : ℕ

-- A register: the width, the capacity, by tag the targets and the standing weights, and the change if one is under way.
pub record Desk : Type 0 where
  pub width : ℕ
  pub capacity : ℕ
  pub targets : List (Option ℕ)
  pub weights : List (Option ℕ)
  pub change : Option Underway

abbrev pub underway : Change → Underway
underway c = record { order = c.order; weights = c.weights; steps = c.steps; left = c.left }

abbrev pub desk : Register → Desk
desk g = record { width = g.width.bits; capacity = g.capacity; targets = g.targets; weights = g.weights; change = on underway g.change }

abbrev pub with_change : Desk → Option Underway → Desk
with_change d c = record { width = d.width; capacity = d.capacity; targets = d.targets; weights = d.weights; change = c }

-- A rule memory: what it holds at every prefix, how many rules, and its capacity.
pub record View : Type 0 where
  pub held : Held
  pub size : ℕ
  pub limit : ℕ

abbrev pub view : {X : Type 0} → (X → Held) → (X → ℕ) → (X → ℕ) → X → View
view held size limit x = record { held = held x; size = size x; limit = limit x }
