pub mod ExchangesLemmas
