pub mod BlockZero
