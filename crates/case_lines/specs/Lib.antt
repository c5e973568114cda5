pub mod VerifierKeys
