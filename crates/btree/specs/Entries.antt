-- What a scan does at one entry of a node. Document 01, btree.rs, `scan`; Apple File System Reference, "File-System Objects", j_key_t.
use Rattle.std.specs.Prelude.{ℕ, ◌+◌, ◌/◌, ◌%◌, ◌^◌, List, None, Option, Some}
use Rattle.error.specs.Answer.{Answer, Ok, Err, ◌>>=◌, if_le, if_eq}
use Rattle.byte_fields.specs.Number.{number_at}
use Rattle.byte_fields.specs.Part.{part_of}
use Rattle.obj.specs.Block.{block_of}
use Rattle.node.specs.Entry.{key_value_at, child_at}
use Rattle.node.specs.Place.{place_of}
use Rattle.node.specs.declared.layout.Node.{Node}
use Rattle.node.specs.declared.layout.Info.{Info}
use Rattle.node.specs.declared.table.KeyValue.{KeyValue}
use Rattle.lookup.specs.declared.counted.Counted.{Counted}
use Rattle.lookup.specs.Counted.{after}
use Rattle.lookup.specs.Path.{Through, at_once, by, on, and_then}
use Rattle.lookup.specs.Read.{node_at}
use Rattle.lookup.specs.Map.{resolve}
use Rattle.btree.specs.declared.entries.Search.{Search}
use Rattle.node.specs.declared.place.Place.{Place}
use Rattle.btree.specs.declared.entries.Order.{Order}
use Rattle.btree.specs.declared.entries.Order.TheVariants.{Below, Inside, Above}
use Rattle.btree.specs.declared.entries.Item.{Item}
use Rattle.btree.specs.declared.entries.Item.TheVariants as item
use Rattle.byte_fields.specs.declared.Span.{Span}

-- the bytes of a node's block
abbrev pub bytes_of : List ℕ → Search → Node → List ℕ
bytes_of b q m = block_of q.keys.reader b m.block

-- a key begins with a number of 64 bits, h: the id in the low 60, the kind in the high 4; the id is compared first (fs.rs, `records`)
unfoldable pub order_of : ℕ → ℕ → ℕ → Order
order_of id kind h =
    if_eq (h % 2 ^ 60) id
    (if_eq (h / 2 ^ 60) kind Inside (if_le (h / 2 ^ 60) kind Below Above))
    (if_le (h % 2 ^ 60) id Below Above)

unfoldable pub key_order : ℕ → ℕ → List ℕ → Answer Order
key_order id kind key = number_at 8 key 0 >>= λ h. Ok (order_of id kind h)

-- how the i-th entry of a node in the block b stands to an id and a kind (btree.rs, `window`)
unfoldable pub order_in : List ℕ → Node → Info → ℕ → ℕ → ℕ → Answer Order
order_in b m info id kind i = key_value_at b m info i >>= λ e. key_order id kind (part_of b e.key)

abbrev pub order_at : List ℕ → Search → Node → ℕ → Answer Order
order_at b q m i = order_in (bytes_of b q m) m q.keys.info q.keys.id q.keys.kind i

unfoldable pub by_order : {A : Type 0} → Order → A → A → A → A
by_order Below x y z = x
by_order Inside x y z = y
by_order Above x y z = z

-- what an entry of a leaf gives: it is passed over, ends the scan, or is a record (btree.rs, `scan_node`)
pub data Leaf : Type 0 where
  pass_over : Leaf
  end_scan : Leaf
  record_at : Place → Leaf

abbrev pub item_told : Item → Answer Leaf
item_told item.Pass = Ok pass_over
item_told item.Stop = Ok end_scan
item_told (item.At p) = Ok (record_at p)
item_told (item.No e) = Err e

-- document 01, btree.rs: "Value offset 0xffff means no value; `scan` skips it"
abbrev pub valued : Option Span → Place → Leaf
valued (Some v) p = record_at p
valued None p = pass_over

unfoldable pub record_of : Node → KeyValue → Leaf
record_of m e = valued e.value (place_of m.block e)

-- the i-th entry of a leaf in the block b, read with its value
unfoldable pub item_in : List ℕ → Node → Info → ℕ → ℕ → ℕ → Answer Leaf
item_in b m info id kind i =
    key_value_at b m info i >>= λ e.
    key_order id kind (part_of b e.key) >>= λ o.
    by_order o (Ok pass_over) (Ok (record_of m e)) (Ok end_scan)

abbrev pub item_at : List ℕ → Search → Node → ℕ → Answer Leaf
item_at b q m i = item_in (bytes_of b q m) m q.keys.info q.keys.id q.keys.kind i

-- what a scan does at an entry of an index node (btree.rs, `scan_node`)
pub data Act : Type 0 where
  stop : Act
  skip : Act
  into : Node → Act

abbrev pub into_told : Answer Node → Answer Act
into_told (Ok m) = Ok (into m)
into_told (Err e) = Err e

abbrev pub entering_told : Counted Node → Counted Act
entering_told t = after t.nodes (into_told t.answer)

-- the node of a child: its name may be looked up in an object map, and it is gone through once its block has passed as a node (btree.rs, `read_child`)
unfoldable pub child_node : List ℕ → Search → ℕ → Through Act
child_node b q child =
    and_then (resolve q.keys.reader b q.resolve child) λ p.
    on (node_at q.keys.reader b p) λ c.
    by p (at_once (Ok (into c)))

-- the child of the i-th entry
unfoldable pub enter_at : List ℕ → Search → Node → ℕ → Through Act
enter_at b q m i = on (child_at (bytes_of b q m) m q.keys.info i) (child_node b q)

-- an entry whose next is still below is skipped, any other's child is entered: the next is read before the child (btree.rs, `scan_node`)
unfoldable pub follow_at : List ℕ → Search → Node → ℕ → Through Act
follow_at b q m i =
    if_le m.nkeys (i + 1) (enter_at b q m i)
    (on (order_at b q m (i + 1)) λ o. by_order o (at_once (Ok skip)) (enter_at b q m i) (enter_at b q m i))

-- the i-th entry of an index node; one above ends the scan
unfoldable pub turn_at : List ℕ → Search → Node → ℕ → Through Act
turn_at b q m i = on (order_at b q m i) λ o. by_order o (follow_at b q m i) (follow_at b q m i) (at_once (Ok stop))
