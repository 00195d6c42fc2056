pub mod SupervisingLemmas
