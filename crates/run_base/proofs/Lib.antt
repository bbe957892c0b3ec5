pub mod ExchangeLemmas
