-- Both rows are read, and then both are stored: the two stores are those of the definition.
use Rattle.books.specs.Book.{changed_graph}
use Rattle.books.proofs.edge.Change.set_edge.Goals as goal

pub returns : goal.returns
unfolding changed_graph
returns c = cc
