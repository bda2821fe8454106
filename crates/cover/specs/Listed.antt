-- The nodes in a list of at most 128. Assumes nothing.
use Rattle.std.specs.Prelude.{List}
use Rattle.cover.specs.declared.node.Node.{Node}
use Rattle.cover.specs.declared.listing.NodeList.{NodeList}

abbrev pub listed : NodeList → List Node
listed l = l.nodes.items
