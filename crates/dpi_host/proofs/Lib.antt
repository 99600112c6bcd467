mod CallLemmas
mod Examples
