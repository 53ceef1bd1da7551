mod BoundLemmas
mod HostedLemmas
