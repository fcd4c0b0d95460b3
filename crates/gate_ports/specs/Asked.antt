-- What the system is asked to report. Source: epoll_ctl(2) of Linux.
use Rattle.std.specs.Prelude.{ℕ}
use Rattle.gate_ports.specs.declared.selector.Asked.{Asked}
use Rattle.gate_ports.specs.declared.selector.Asked.TheVariants.{Connections, NoConnections, Reads, All}

-- EPOLL_CTL_ADD, EPOLL_CTL_DEL and EPOLL_CTL_MOD
abbrev pub operation_of : Asked → ℕ
operation_of Connections = 1
operation_of NoConnections = 2
operation_of (Reads place) = 1
operation_of (All place) = 3

-- connections: EPOLLIN and EPOLLEXCLUSIVE, which wakes one of those that wait; peers: EPOLLIN, EPOLLRDHUP and EPOLLET, which
-- reports each change once, and EPOLLOUT
abbrev pub events_of : Asked → ℕ
events_of Connections = 268435457
events_of NoConnections = 0
events_of (Reads place) = 2147491841
events_of (All place) = 2147491845

-- a peer is reported by its place
abbrev pub number_of : Asked → ℕ
number_of Connections = 18446744073709551615
number_of NoConnections = 18446744073709551615
number_of (Reads place) = place
number_of (All place) = place
