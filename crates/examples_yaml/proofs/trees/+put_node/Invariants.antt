use Rattle.examples_yaml.proofs.trees.+put_node.Given as goal

abbrev pub decreases-put_node : goal.decreases-put_node
decreases-put_node l = l.n
