pub mod Goes
pub mod Stretches
