use Rattle.gate_queue.proofs.opening.open_all.Given as goal

abbrev pub ghosts-begin : goal.ghosts-begin
ghosts-begin a = record { clients = a.bounds.clients; quota = a.bounds.quota; capacity = a.bounds.capacity }
