-- Binary tries over the bits of a key, the highest bit first: what they hold, and how many nodes they have. A height h is the number of bits
-- that are still to come.
use Rattle.std.specs.Prelude.{◌≡◌, ℕ, suc, ◌+◌, ◌-◌, ◌%◌, ◌^◌, ◌<◌, ◌≤◌, Bool, true, false, cond, not, ◌&&◌, ◌||◌, is_some, Some, None, Option, ◌==◌, nat_le, nat_lt, refl}
use Rattle.std.specs.Option.{option_or}
use Rattle.rules.specs.declared.server.Server.{Server}
use Rattle.memory.specs.Keys.{formed}
use Rattle.memory.specs.Holding.{Held}
use Rattle.memory.specs.declared.trie.Trie.{Trie, Trie', None', Some'}
use Rattle.memory.specs.declared.trie.Node.{Node, Node'}

-- What the first of h bits stands for.
abbrev pub half : ℕ → ℕ
half h = 2 ^ (h - 1)

-- What lies below a bit of a node, and the node with something else there.
abbrev pub child : Node → Bool → Trie
child (Node' s l r) b = cond b r l

abbrev pub with_child : Node → Bool → Trie → Node
with_child (Node' s l r) b t = Node' s (cond b l t) (cond b t r)

-- The server at the first n of the h bits of v.
abbrev pub at_bits : Trie → ℕ → ℕ → ℕ → Option Server
at_bits (Trie' None') h n v = None
at_bits (Trie' (Some' p (Node' s l r))) h n v = cond (n == 0) s (cond (nat_le (half h) v) (at_bits r (h - 1) (n - 1) (v - half h)) (at_bits l (h - 1) (n - 1) v))

-- The server at the longest prefix of the h bits of v.
abbrev pub look_in : Trie → ℕ → ℕ → Option Server
look_in (Trie' None') h v = None
look_in (Trie' (Some' p (Node' s l r))) h v = option_or (cond (h == 0) None (cond (nat_le (half h) v) (look_in r (h - 1) (v - half h)) (look_in l (h - 1) v))) s

-- A prefix of n of h bits: the other bits are 0.
abbrev pub Within : ℕ → ℕ → ℕ → Type 0
Within h n v = (n ≤ h) × (v < 2 ^ h) × (v % 2 ^ (h - n) ≡ 0)

abbrev pub is_node : Trie → Bool
is_node (Trie' None') = false
is_node (Trie' (Some' p (Node' s l r))) = true

-- The first bit of n of the h bits of v, and what is behind it: n' of the h' bits of v'.
pub record Split (h n v : ℕ) (bit : Bool) (h' n' v' : ℕ) : Type 0 where
  pub some : 0 < n
  pub bit_is : bit ≡ nat_le (half h) v
  pub height_is : h' ≡ h - 1
  pub length_is : n' ≡ n - 1
  pub value_is : v' ≡ cond bit (v - half h) v

-- A node that holds nothing, over two empty tries.
abbrev pub bare : Trie → Bool
bare (Trie' None') = false
bare (Trie' (Some' p (Node' s l r))) = not (is_some s) && (not (is_node l) && not (is_node r))

abbrev pub nodes : Trie → ℕ
nodes (Trie' None') = 0
nodes (Trie' (Some' p (Node' s l r))) = 1 + (nodes l + nodes r)

abbrev pub rules : Trie → ℕ
rules (Trie' None') = 0
rules (Trie' (Some' p (Node' s l r))) = cond (is_some s) 1 0 + (rules l + rules r)

-- Each node holds a server or stands above another node, and none lies below the height.
abbrev pub neat : Trie → ℕ → Bool
neat (Trie' None') h = true
neat (Trie' (Some' p (Node' s l r))) h = (is_some s || (is_node l || is_node r)) && ((nat_lt 0 h || not (is_node l || is_node r)) && (neat l (h - 1) && neat r (h - 1)))

-- The same, but for the first node, which may be bare.
abbrev pub ready : Trie → ℕ → Bool
ready (Trie' None') h = true
ready (Trie' (Some' p (Node' s l r))) h = (nat_lt 0 h || not (is_node l || is_node r)) && (neat l (h - 1) && neat r (h - 1))

-- How many nodes a chain has: spare nodes hang below one another on the side of the bit 0.
abbrev pub spares : Trie → ℕ
spares (Trie' None') = 0
spares (Trie' (Some' p (Node' s l r))) = suc (spares l)

-- An empty trie t became a node off the chain c, or a node is as it was.
pub record Opened (t t' c c' : Trie) : Type 0 where
  pub held : (h n v : ℕ) → at_bits t' h n v ≡ at_bits t h n v
  pub nodes_kept : nodes t' + spares c' ≡ nodes t + spares c
  pub one_less : spares c ≤ spares c' + 1
  pub rules_kept : rules t' ≡ rules t
  pub node : is_node t' ≡ true
  pub ready_now : (h : ℕ) → neat t h ≡ true → ready t' h ≡ true

-- The trie t with s at the first n of the h bits of v; the chain c gave the nodes.
pub record Inserted (t t' c c' : Trie) (h n v : ℕ) (s : Server) : Type 0 where
  pub held : (k w : ℕ) → Within h k w → at_bits t' h k w ≡ cond (v == w && n == k) (Some s) (at_bits t h k w)
  pub nodes_kept : nodes t' + spares c' ≡ nodes t + spares c
  pub rules_are : rules t' ≡ rules t + cond (is_some (at_bits t h n v)) 0 1
  pub node : is_node t' ≡ true
  pub neat_kept : neat t h ≡ true → neat t' h ≡ true

-- A bare node t became empty and went to the chain c, or a trie is as it was.
pub record Pruned (t t' c c' : Trie) : Type 0 where
  pub held : (h n v : ℕ) → at_bits t' h n v ≡ at_bits t h n v
  pub nodes_kept : nodes t' + spares c' ≡ nodes t + spares c
  pub rules_kept : rules t' ≡ rules t
  pub neat_now : (h : ℕ) → ready t h ≡ true → neat t' h ≡ true

-- The trie t with nothing at the first n of the h bits of v; the chain c took the bare nodes. `left` says how neat the trie is left.
pub record Erased (t t' c c' : Trie) (h n v : ℕ) (left : Trie → ℕ → Bool) : Type 0 where
  pub held : (k w : ℕ) → Within h k w → at_bits t' h k w ≡ cond (v == w && n == k) None (at_bits t h k w)
  pub nodes_kept : nodes t' + spares c' ≡ nodes t + spares c
  pub rules_are : rules t' + cond (is_some (at_bits t h n v)) 1 0 ≡ rules t
  pub neat_kept : neat t h ≡ true → left t' h ≡ true

-- What a trie over the 32 bits of keys holds.
abbrev pub in_trie : Trie → Held
in_trie t v l = cond (formed v l) (at_bits t 32 l v) None

formed_if : (b : Bool) (o : Option Server) → is_some (cond b o None) ≡ true → b ≡ true
formed_if true o e = refl
formed_if false o e = e

-- It holds only well-formed prefixes.
pub trie_formed : (t : Trie) (v l : ℕ) → is_some (in_trie t v l) ≡ true → formed v l ≡ true
trie_formed t v l e = formed_if (formed v l) (at_bits t 32 l v) e
